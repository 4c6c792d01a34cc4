-- Lemmas of the crate.
pub mod Lists
pub mod Passes
pub mod Puts
pub mod Pairs
pub mod Sided
pub mod Filled
pub mod Calls
pub mod Links
pub mod Layers
pub mod Quotes
