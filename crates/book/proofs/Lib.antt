-- Lemmas that the functions' proofs share.
pub mod Fronts
pub mod Keeping
pub mod Searches
pub mod Renewing
pub mod Sifting
pub mod Striking
pub mod Ranking
pub mod Lasting
pub mod Numbers
pub mod Orderliness
pub mod Accepting
