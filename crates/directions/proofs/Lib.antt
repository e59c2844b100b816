-- The laws that the proofs of `directions` cite, and the crates above.
pub mod Refused
pub mod FilingCalls
pub mod OneFiling
