-- What the contracts of rules cite beside the model.
pub mod Bodies
