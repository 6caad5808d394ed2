-- The table of offsets.
pub mod Table
