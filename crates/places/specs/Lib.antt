-- Where each segment of a state begins.
pub mod Places
pub mod Props
pub mod Standing
pub mod Views
