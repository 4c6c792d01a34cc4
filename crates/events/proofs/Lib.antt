-- Laws of the calls and steps as values.
pub mod Tests
pub mod Placing
