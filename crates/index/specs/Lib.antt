-- What an answer of the check stands for.
pub mod Verdicts
