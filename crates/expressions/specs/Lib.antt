-- What the contracts of expressions cite beside the model.
pub mod Reading
