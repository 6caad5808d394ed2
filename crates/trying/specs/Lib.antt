-- What the contracts of trying cite beside the model.
pub mod Views
pub mod Scenes
pub mod Working
