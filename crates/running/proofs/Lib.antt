-- Laws of the run program.
pub mod Bounds
pub mod Runs
