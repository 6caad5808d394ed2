-- Laws of bytes and numbers.
pub mod Laws
