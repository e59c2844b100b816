-- What a reader must believe: document 02, 2026-11, the calls on the small form for a C host.
pub mod Refusals
pub mod Answers
pub mod Promises
pub mod Examples
