-- What a reader must believe: that a call's contract is just its promise, and the zeros that a refusal is told with.
pub mod Host
pub mod Sweeps
pub mod Soundings
pub mod Cells
pub mod Mending
pub mod Harbour
pub mod Opposites
pub mod Paper
pub mod Marks
pub mod Verdicts
pub mod Zeros
pub mod OneResult
