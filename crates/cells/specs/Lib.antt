-- What a reader must believe: request 2026-09 of document 02, another yard's cell list checked.
pub mod Order
pub mod Checking
pub mod Promises
pub mod Examples
-- What the code is proved by, and no promise: see there.
pub mod Means
