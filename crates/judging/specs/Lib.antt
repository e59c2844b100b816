-- What the functions of this crate compute, and the laws speak of. No promise rests on the names here: those of
-- mending are in the crate mending.
pub mod Means
