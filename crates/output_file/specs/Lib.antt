-- What the contracts of output_file cite beside the model.
pub mod Files
