-- What a reader must believe: document 02, 2026-12, the calls for a C host.
pub mod Refusals
pub mod Answers
pub mod Promises
pub mod Examples
