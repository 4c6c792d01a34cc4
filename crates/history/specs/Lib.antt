-- The definitions that the contracts cite.
pub mod History
pub mod Standing
pub mod Stands
pub mod Laws
pub mod Extending
