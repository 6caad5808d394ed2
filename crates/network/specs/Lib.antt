-- What the contracts of network, and of the crates above it, cite beside the model.
pub mod Answers
