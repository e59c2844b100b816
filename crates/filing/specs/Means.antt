-- What the functions below the public ones compute, and the laws speak of. No promise rests on the names here: the
-- promises are relations over Holding.antt, and the laws of proofs/ tie these to it. Assumes nothing.
pub mod Places
pub mod Descent
pub mod Sides
pub mod Lists
pub mod Opposites
