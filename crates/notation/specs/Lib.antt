-- What a reader must believe: of source document 000 the codes that document 02, 2026-13 names, and when one of them
-- and one of our words mean the same.
pub mod Domains
pub mod Vertices
pub mod Same
-- What the code is proved by, and no promise: see there.
pub mod Means
