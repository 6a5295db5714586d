-- laws that the proofs of the code cite
pub mod Moving
pub mod Rooms
