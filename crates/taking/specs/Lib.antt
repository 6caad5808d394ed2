-- What the contracts of taking cite beside the model.
pub mod Taking
pub mod Reading
