-- The laws of the definitions in specs/.
pub mod AxisJudged
pub mod Formed
pub mod NowLaws
pub mod Positions
pub mod PositionsVerdict
pub mod Ready
pub mod Tests
pub mod Verdict
