-- What a reader must believe: request 2026-01 of document 02, the calls exported to a C host.
pub mod Refusals
pub mod Answers
pub mod Promises
pub mod Examples
