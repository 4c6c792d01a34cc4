-- Lemmas of the crate.
pub mod Named
pub mod Said
pub mod Held
pub mod Lent
