-- What the contracts of types cite beside the model.
pub mod Scopes
