-- Laws of the loop over the fields.
pub mod Going
pub mod LastBox
pub mod Tags
