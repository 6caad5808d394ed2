-- Laws that the proofs of cycling cite.
pub mod Midway
pub mod Marked
pub mod Rounds
