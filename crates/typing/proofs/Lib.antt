-- Laws of what fits, and the proofs of the code.
pub mod Peeling
pub mod Patterns
pub mod Scoping
pub mod Actions
pub mod Wholes
pub mod Keeping
pub mod Faults
pub mod Examples
