-- What the contracts of lookup, and of the crates above it, cite beside the model.
pub mod Ends
pub mod Props
pub mod Tabled
pub mod Views
