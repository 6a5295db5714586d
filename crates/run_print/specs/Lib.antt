-- The printing program: what a piece of a run leaves.
pub mod Pieces
