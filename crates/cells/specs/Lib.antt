-- The definitions that the contracts cite.
pub mod Cells
pub mod Meaning
pub mod Shapes
pub mod Lent
pub mod Calls
pub mod Soundness
pub mod Quotes
