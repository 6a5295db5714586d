-- laws that belong to no one function
pub mod May
