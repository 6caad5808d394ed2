-- The definitions of document 01, one module for each of its parts.
pub mod Bytes
pub mod Reasons
pub mod Values
pub mod Expressions
pub mod Rules
pub mod Network
pub mod NetworkFile
pub mod States
pub mod Cycles
pub mod Calls
pub mod Printing
pub mod Orders
pub mod Opened
