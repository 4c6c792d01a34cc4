-- Lemmas of the proofs.
pub mod Deciding
pub mod Asking
pub mod Changing
pub mod Flags
pub mod Carrying
pub mod Once
pub mod Falling
pub mod Running
