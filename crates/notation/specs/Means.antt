-- What the functions below the public ones compute, and the laws speak of. No promise rests on the names here: the
-- laws of proofs/ tie these to the definitions above. Assumes nothing.
pub mod Directions
pub mod Reading
