-- What the contracts of the calls for C cite beside the model.
pub mod Heard
