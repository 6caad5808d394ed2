-- The ways out of each step of an opening.
pub mod Laws
