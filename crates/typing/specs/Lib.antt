-- What the contracts of typing cite beside the model.
pub mod Fits
pub mod Limits
pub mod RuleFault
