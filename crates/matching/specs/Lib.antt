-- What the contracts of matching cite beside the model.
pub mod Outs
