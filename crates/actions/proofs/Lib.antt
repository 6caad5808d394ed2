-- Laws of working out a rule's guard and actions, and the proofs of the code.
pub mod Acting
pub mod Worked
pub mod Placed
pub mod Precise
