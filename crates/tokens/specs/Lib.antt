-- What the contracts of tokens on parts cite beside the model.
pub mod Parts
