-- The laws of a table's file: one number, the numbers of a list, bytes that are read and written again, what is read
-- back, what is refused, and what is promised.
pub mod OneNumber
pub mod InLists
pub mod BytesBack
pub mod GoodNumbers
pub mod WholeFiles
pub mod Refused
pub mod Promises
pub mod Examples
