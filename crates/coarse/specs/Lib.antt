-- What a reader must believe: request 2026-08 of document 02, the coarse sums of a table of soundings.
pub mod Sums
pub mod Refusals
pub mod Answers
pub mod Histories
pub mod Promises
pub mod Examples
pub mod Means
