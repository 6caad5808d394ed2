-- Laws that the proofs of firing cite.
pub mod Doing
pub mod Deeds
pub mod Choosing
