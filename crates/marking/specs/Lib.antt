-- What the contracts of marking cite beside the model.
pub mod Noted
