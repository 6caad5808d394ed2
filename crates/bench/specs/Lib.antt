-- What the contracts of bench cite beside the model, and the demands over what its calls leave.
pub mod Afters
pub mod Demands
