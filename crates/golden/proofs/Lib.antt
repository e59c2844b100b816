-- The laws that the proofs of `golden` cite, and the crates above.
pub mod IntegerRing
pub mod Polynomials
pub mod RingSolver
pub mod IntegerSolver
pub mod IntegerOrder
pub mod Magnitudes
pub mod Machine
pub mod RootFive
pub mod Signs
pub mod GoldenRing
pub mod GoldenOrder
pub mod GoldenProduct
pub mod Quotients
pub mod Nearest
pub mod Multiples
pub mod Examples
