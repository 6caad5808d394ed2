-- Laws of types, and the proofs of the code.
pub mod Judging
pub mod Exits
pub mod Leaves
