-- The laws that the proofs of `points` cite, and the crates above.
pub mod PlaceCalls
pub mod OnePlace
pub mod DrawnBits
