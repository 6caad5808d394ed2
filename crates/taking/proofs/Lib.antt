-- Laws of taking.
pub mod Firing
pub mod Reading
pub mod Due
