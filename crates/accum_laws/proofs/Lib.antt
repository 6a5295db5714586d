-- The laws of the definitions in specs/.
pub mod Flat
pub mod Gather
pub mod Keeps
pub mod Picks
pub mod Runs
pub mod Update
