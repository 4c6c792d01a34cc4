-- Lemmas: the public ones serve the crates above too.
pub mod Flags
pub mod Reached
pub mod Unique
pub mod Carried
pub mod Repeats
pub mod Made
mod Found
mod Falls
mod Greedy
pub mod Ends
pub mod Diamond
