-- The bytes of a trace.
pub mod Lines
pub mod Fits
pub mod Put
