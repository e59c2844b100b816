-- The laws that the proofs of `harbour` cite, and the crates above.
pub mod SmallWords
pub mod LargeCalls
pub mod Promises
pub mod Examples
