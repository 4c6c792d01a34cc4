-- What the contracts speak of.
pub mod Pairs
pub mod Ways
pub mod Orders
pub mod Spans
pub mod Bests
