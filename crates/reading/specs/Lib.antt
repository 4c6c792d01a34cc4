-- The definitions that the contracts cite.
pub mod Text
pub mod Reading
pub mod Faults
pub mod Fields
pub mod Sinks
pub mod Logs
pub mod Output
pub mod Printing
pub mod Making
