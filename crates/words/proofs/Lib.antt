-- The laws that the proofs of `words` cite, and the crates above.
pub mod WordLayout
pub mod Digits
pub mod FormCodes
pub mod Carrying
pub mod Codes
pub mod WordOrder
pub mod ParentChild
pub mod Examples
pub mod CodeCount
pub mod ChildPlaces
