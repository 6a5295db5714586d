-- The laws of the definitions in specs/.
pub mod BoundLaws
pub mod ClearLaw
pub mod Entering
pub mod FullLaws
pub mod HeadLaws
pub mod Kept
pub mod KnownRoom
pub mod Laws
pub mod LimitLaws
pub mod Meaning
pub mod SizeLaws
pub mod UnknownBounds
pub mod Walk
