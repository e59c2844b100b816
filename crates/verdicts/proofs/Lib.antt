-- The laws of the line, and of what is kept of a file.
pub mod Holding
pub mod Texts
pub mod Promises
pub mod Examples
