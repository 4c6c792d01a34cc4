-- The definitions that the contracts cite.
pub mod Lines
pub mod Screens
pub mod Printing
