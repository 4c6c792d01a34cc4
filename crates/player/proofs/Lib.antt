-- Laws of what is played.
mod Turns
pub mod Once
mod Hearing
mod Holding
mod Ending
