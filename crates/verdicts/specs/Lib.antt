-- What a reader must believe: request 2026-09 of document 02, the line that the program writes.
pub mod Program
pub mod Files
pub mod Promises
pub mod Examples
