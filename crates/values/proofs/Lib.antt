-- Laws of values, and the proofs of the code.
pub mod Machine
pub mod Results
