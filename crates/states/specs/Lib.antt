-- What the contracts of states cite beside the model.
pub mod Saved
