-- What the functions below the public ones compute, and the laws speak of. No promise rests on the names here: the
-- promises are relations over the division of Division.antt, and the laws of proofs/ tie these to it. Assumes nothing.
pub mod States
pub mod Paths
pub mod Gathers
pub mod Seams
pub mod Spreads
pub mod Walks
pub mod Flags
