-- Laws of what a run prints.
mod Told
mod Printing
mod Telling
pub mod Once
mod Words
mod Kept
mod ReadingBack
mod Refused
