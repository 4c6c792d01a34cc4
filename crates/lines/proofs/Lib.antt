-- Laws of what a line asks for; `one_asking` in Once.
mod Asked
mod Passed
pub mod Once
