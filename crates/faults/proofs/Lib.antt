-- Laws of the tests on fields.
pub mod Every
pub mod Laws
