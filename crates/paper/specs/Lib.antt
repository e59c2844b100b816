-- What a reader must believe: document 02, 2026-13. The paper's codes themselves are defined in the crate notation.
pub mod Refusals
pub mod Answers
pub mod Promises
pub mod Examples
