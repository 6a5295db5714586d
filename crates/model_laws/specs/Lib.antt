-- What lent tables spell, what the judge of them answers, and the fresh model.
pub mod Tables
pub mod Now
pub mod Judge
pub mod Tests
pub mod AxisJudged
pub mod Formed
pub mod NowLaws
pub mod Only
pub mod Once
pub mod Verdict
pub mod Ready
pub mod Positions
pub mod Fresh
pub mod Called
pub mod Result
