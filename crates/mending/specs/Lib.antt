-- What a reader must believe: request 2026-10 of document 02, another yard's cell list mended.
pub mod Mending
pub mod Covering
pub mod Answers
pub mod Promises
pub mod Examples
-- What the code is proved by, and no promise: see there.
pub mod Means
