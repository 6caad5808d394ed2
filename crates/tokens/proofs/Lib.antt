-- Laws of tokens on parts.
pub mod Every
pub mod Laws
pub mod Lifts
pub mod Turns
pub mod Groups
