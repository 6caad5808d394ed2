-- Laws of boxes and their rules as the table has them, and the proofs of the code.
pub mod Boxes
pub mod Trials
pub mod Boxmarks
pub mod Noting
pub mod Processes
