-- The laws that the proofs of `lines` cite.
pub mod Appending
pub mod Runs
pub mod Readings
pub mod Spelling
pub mod Minus
