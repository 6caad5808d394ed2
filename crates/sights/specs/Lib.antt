-- What the contracts of sights cite beside the model.
pub mod Seen
