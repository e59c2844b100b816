-- The contracts and the zeros, by computation; and a law that docs name and no code uses any longer.
pub mod Host
pub mod Sweeps
pub mod Soundings
pub mod Cells
pub mod Mending
pub mod Harbour
pub mod Opposites
pub mod Paper
pub mod Marks
pub mod Verdicts
pub mod Zeros
pub mod OneResult
pub mod Placing
