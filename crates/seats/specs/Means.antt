-- How the code finds where a direction stands. No promise rests on the names here: the laws of proofs/ tie them to
-- the determinants. Assumes nothing.
pub mod Octants
pub mod Near
pub mod Roles
pub mod Finding
