-- Laws of reading a rule's body, and the proofs of the code.
pub mod Ends
pub mod Keeping
pub mod Laying
pub mod Stops
pub mod Folding
