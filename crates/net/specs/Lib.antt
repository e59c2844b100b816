-- What a reader must believe: document 01, section by section.
pub mod Sides
pub mod Division
pub mod Corners
pub mod Names
pub mod Refusals
pub mod Steps
-- What the code is proved by, and no promise: see there.
pub mod Means
