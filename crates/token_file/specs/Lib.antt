-- What the contracts of token_file cite beside the model.
pub mod Fields
pub mod Props
pub mod Views
