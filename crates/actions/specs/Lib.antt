-- What the contracts of actions cite beside the model.
pub mod Acts
