-- The definitions that the contracts cite.
pub mod Hops
pub mod Flows
pub mod Same
pub mod Balance
pub mod Traded
