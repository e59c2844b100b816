-- What the functions below a sweep over bytes compute, and the laws speak of. No promise rests on the names here.
-- Assumes nothing.
pub mod CountedBytes
