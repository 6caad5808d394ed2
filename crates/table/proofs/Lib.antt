-- Laws of the table and of the walk that fills it.
pub mod Regions
pub mod Fields
pub mod Walk
pub mod Lengths
