-- Model sheets: words, what the bytes say, the table of operations, and which sheets are accepted.
pub mod AllTo
pub mod Operations
pub mod Sheet
pub mod Accepted
pub mod Tests
pub mod Checking
pub mod Fields
pub mod Ranges
pub mod Examples
