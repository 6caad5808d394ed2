-- Laws of the counts of ports.
pub mod Counts
pub mod Decoded
