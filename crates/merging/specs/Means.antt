-- What the functions below the call compute, and the laws speak of. No promise rests on the names here. Assumes
-- nothing.
pub mod Joining
