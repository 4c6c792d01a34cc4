-- Lemmas, all of which serve the crates above too.
pub mod Opened
pub mod Hops
pub mod Least
pub mod Taken
pub mod Granted
pub mod Balance
pub mod Backward
pub mod Traded
