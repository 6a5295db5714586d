-- Counts, kinds of numbers, answers, and the papers' numbers of refusals.
pub mod Refusals
pub mod Counts
pub mod Answers
pub mod Passed
