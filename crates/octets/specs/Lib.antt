-- What the contracts of bytes cite beside the model.
pub mod Part
