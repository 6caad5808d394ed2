-- Types laid out in bytes.
pub mod Shapes
