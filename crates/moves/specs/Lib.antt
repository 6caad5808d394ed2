-- What the contracts of the single moves cite beside the model.
pub mod Moves
pub mod Views
