-- The edge for a C host.
pub mod Host
