-- The tests on a box's variables.
pub mod Variables
