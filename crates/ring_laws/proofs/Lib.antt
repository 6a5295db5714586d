-- The laws of the definitions in specs/.
pub mod Busy
pub mod Fine
pub mod RingWalk
pub mod Rows
pub mod Spell
