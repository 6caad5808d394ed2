-- Laws of the single moves.
pub mod Laws
pub mod Steps
