-- The definitions that the contracts cite.
pub mod Tests
pub mod Faults
pub mod Directions
pub mod Network
pub mod Sides
pub mod Meaning
pub mod Answers
pub mod Granted
pub mod Pairs
pub mod Tables
pub mod Shapes
pub mod Soundness
pub mod Memory
pub mod Quotes
