-- Laws of rules against what their box sees, and the proofs of the code.
pub mod Tokens
pub mod Offsets
pub mod Judging
pub mod Settling
pub mod Searching
