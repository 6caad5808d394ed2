-- What the contracts of cycling cite beside the model.
pub mod Cycling
pub mod Views
