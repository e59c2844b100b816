-- What a reader must believe: marks on the chart (document 02, 2026-14).
pub mod Marks
pub mod Answers
pub mod Promises
pub mod Examples
