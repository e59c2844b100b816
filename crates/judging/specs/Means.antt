-- What the functions of this crate compute, and the laws speak of. No promise rests on the names here. Assumes
-- nothing.
pub mod Keys
pub mod Turns
