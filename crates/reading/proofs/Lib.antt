-- Laws of texts cut into lines and words, and of number words read one after another.
mod Cuts
mod Numbering
pub mod Once
pub mod Made
mod Words
pub mod Heard
pub mod Printing
