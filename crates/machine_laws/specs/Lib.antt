-- The plain machine's laws: what each call does to the notices, the order of ties, and that a run cut into calls is the uncut one.
pub mod Uncut
pub mod StepLaws
pub mod CallLaws
pub mod HistoryLaw
pub mod Invariant
pub mod TurnCases
pub mod GoesFirst
pub mod FirstProcess
