-- What the contracts of opening cite beside the model.
pub mod Filled
pub mod Opening
