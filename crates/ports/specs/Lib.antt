-- The ports of a network, counted.
pub mod Ports
