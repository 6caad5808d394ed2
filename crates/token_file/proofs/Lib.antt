-- Laws of the token file.
pub mod Laws
