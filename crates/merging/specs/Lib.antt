-- What the functions below the call compute, and the laws speak of. No promise rests on the names here: those of
-- mending are in the crate mending.
pub mod Means
