-- What the contracts of printing cite beside the model.
pub mod Pages
pub mod Wrote
pub mod Lines
