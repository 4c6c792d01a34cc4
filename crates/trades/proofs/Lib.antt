-- Lemmas.
pub mod Dealing
pub mod Once
