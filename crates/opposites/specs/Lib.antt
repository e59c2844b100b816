-- What a reader must believe: document 02, 2026-12.
pub mod Opposites
pub mod Answers
pub mod Promises
pub mod Examples
