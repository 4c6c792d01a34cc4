-- The lemmas of the crate.
pub mod Laws
pub mod Scanned
pub mod Bodies
pub mod Scaling
pub mod Once
pub mod Printed
pub mod Examples
