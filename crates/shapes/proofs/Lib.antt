-- Laws of types laid out in bytes.
pub mod Laws
