-- Laws of patterns and output actions, and the proofs of the code.
pub mod Laws
