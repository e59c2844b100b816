-- What a reader must believe: request 2026-04 of document 02, a sweep exported to a C host.
pub mod Refusals
pub mod Answers
pub mod Promises
pub mod Examples
-- What the code is proved by, and no promise: see there.
pub mod Means
