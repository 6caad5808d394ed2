-- Laws of reading, and the proofs of the code.
pub mod Reading
pub mod Heads
pub mod Shapes
pub mod Depths
pub mod Parts
pub mod Turns
pub mod Leaves
