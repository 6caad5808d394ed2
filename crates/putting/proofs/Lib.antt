-- Laws of what a rule's actions leave.
pub mod Sent
pub mod Kept
