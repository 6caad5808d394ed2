-- Laws of the printed text.
pub mod Pages
pub mod Texts
pub mod Numbers
pub mod Lines
