-- Rings in a lent table: plain lists, chains, the published statements, and what a table spells.
pub mod Lists
pub mod Distinct
pub mod Members
pub mod Tabulate
pub mod Chain
pub mod Unique
pub mod Rings
pub mod Table
pub mod Stores
pub mod Spell
pub mod OneTable
pub mod Empty
pub mod Sound
pub mod Judge
pub mod RingWalk
pub mod Rows
pub mod Fine
