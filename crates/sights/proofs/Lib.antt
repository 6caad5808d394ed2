-- Laws that several functions cite.
pub mod Parts
pub mod Ports
pub mod Sights
