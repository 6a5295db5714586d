-- Words in a list of bytes.
pub mod Words
pub mod Signed
