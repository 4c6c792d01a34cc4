-- Lemmas on views.
mod Holding
mod Belows
mod Reaching
mod Showing
pub mod Gathering
mod Counting
mod Once
mod Ranking
