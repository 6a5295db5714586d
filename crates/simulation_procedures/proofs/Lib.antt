-- laws that the proofs of the code cite
pub mod Chained
pub mod Arms
