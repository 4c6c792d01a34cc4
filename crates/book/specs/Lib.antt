-- The definitions that the contracts cite.
pub mod Refusals
pub mod Orders
pub mod Orderly
pub mod Terms
pub mod Trades
pub mod Places
pub mod Ranks
pub mod Icebergs
pub mod Examples
