-- What the contracts speak of.
pub mod Deals
