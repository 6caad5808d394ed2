-- What the contracts of the run text cite beside the model.
pub mod Texts
