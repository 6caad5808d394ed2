-- Laws of whole states.
pub mod Bases
pub mod Fits
pub mod Loads
pub mod Sizes
