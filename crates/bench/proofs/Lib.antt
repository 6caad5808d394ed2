-- The ways out of each call, and that no second answer meets a call's contract.
pub mod Loads
pub mod Writes
pub mod Marks
pub mod Cycles
pub mod Tight
pub mod Demands
