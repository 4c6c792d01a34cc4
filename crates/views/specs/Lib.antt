-- The definitions that the contracts cite.
pub mod Ranks
pub mod Views
pub mod Gathered
pub mod Capacities
pub mod Books
pub mod Single
