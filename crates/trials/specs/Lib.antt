-- The definitions that the contracts cite.
pub mod Rows
pub mod Registers
pub mod Rounds
pub mod Lent
pub mod Trials
