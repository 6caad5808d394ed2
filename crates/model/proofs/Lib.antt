-- Theorems about the definitions.
pub mod Workbook
pub mod Numbers
pub mod Tests
pub mod Wrapping
pub mod Typing
pub mod Order
pub mod Sound
pub mod Accepted
pub mod Decoded
pub mod Lookup
pub mod Whole
pub mod Sizes
pub mod AnyOrder
pub mod Kept
