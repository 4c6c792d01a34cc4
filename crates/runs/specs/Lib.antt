-- The definitions that the contracts cite.
pub mod Output
pub mod Lines
pub mod Maps
pub mod Runs
pub mod Running
