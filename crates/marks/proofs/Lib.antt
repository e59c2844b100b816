-- Laws of marks, and that the promises hold.
pub mod Marking
pub mod Promises
pub mod Examples
