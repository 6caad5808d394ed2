-- Laws that several functions cite.
pub mod Ends
