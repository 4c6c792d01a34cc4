-- Definitions that the contracts cite.
pub mod Order
pub mod Orders
pub mod Strict
pub mod Ranking
pub mod Refusals
pub mod Held
pub mod Marks
pub mod Tickets
