-- What the contracts speak of.
pub mod Paths
pub mod Laws
pub mod Example
pub mod Grids
pub mod Listed
pub mod Levels
