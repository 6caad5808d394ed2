-- What the contracts of firing cite beside the model.
pub mod Firing
pub mod Views
