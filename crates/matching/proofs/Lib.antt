-- Lemmas: the public ones serve the crates above too.
pub mod Unique
pub mod Carried
pub mod Members
mod Tables
mod Ranked
mod Choosing
