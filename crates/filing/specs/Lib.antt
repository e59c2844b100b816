-- What a reader must believe: document 01, section by section.
pub mod Coordinates
pub mod Refusals
pub mod Multiples
pub mod Holding
pub mod Filing
pub mod Fractions
pub mod Drawing
-- What the code is proved by, and no promise: see there.
pub mod Means
