-- What a reader must believe: requests 2026-09 and 2026-10 of document 02, a cell list checked and mended for a C host.
pub mod Refusals
pub mod Answers
pub mod Promises
pub mod Examples
