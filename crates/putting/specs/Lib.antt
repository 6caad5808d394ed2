-- What the contracts of putting cite beside the model.
pub mod Putting
pub mod Actors
