-- The calls program's requests: the head, and how many bytes the contents take.
pub mod Contents
pub mod Heads
