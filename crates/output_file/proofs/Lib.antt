-- Laws of the output file.
pub mod Laws
