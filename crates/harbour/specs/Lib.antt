-- What a reader must believe: document 02, 2026-11.
pub mod Small
pub mod Refusals
pub mod Answers
pub mod Promises
pub mod Examples
