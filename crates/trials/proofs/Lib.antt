-- Lemmas, and the worked examples: `way_back` in Grant, `better_price` in Border.
pub mod Playing
pub mod Paths
pub mod Quiet
pub mod Unused
pub mod Dealt
pub mod Joined
pub mod Grant
pub mod Border
