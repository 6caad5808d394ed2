-- Laws of values of expressions, and the proofs of the code.
pub mod Sound
pub mod Valuing
pub mod Leaves
