-- The definitions that the contracts cite.
pub mod Playing
pub mod Sinks
pub mod Logs
