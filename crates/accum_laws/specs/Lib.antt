-- Accumulators: whole numbers in signed words, the update, its laws, and what the calls answer.
pub mod Signed
pub mod Update
pub mod Keeps
pub mod Flat
pub mod Triples
pub mod Calls
pub mod Promise
pub mod Picks
pub mod Runs
pub mod Gather
pub mod Meaning
