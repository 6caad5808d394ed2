-- What the contracts of evaluation cite beside the model.
pub mod Envs
pub mod Named
