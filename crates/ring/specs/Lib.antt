-- Rings as values.
pub mod Rings
