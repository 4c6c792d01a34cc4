-- The definitions that the contracts cite.
pub mod Faults
pub mod State
pub mod Calls
pub mod Steps
pub mod Rounds
