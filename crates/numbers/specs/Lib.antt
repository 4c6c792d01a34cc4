-- The definitions of the crate.
pub mod Numerals
pub mod Reading
pub mod Figures
pub mod Printing
pub mod Examples
pub mod Scans
