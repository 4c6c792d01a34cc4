-- Lemmas on ranked lists.
pub mod Inserting
pub mod Laws
