-- The laws of the definitions in specs/.
pub mod ActivateLaws
pub mod Agree
pub mod AgreeEnds
pub mod AgreeTimed
pub mod Forward
pub mod Kept
pub mod Meaning
pub mod PublicLaws
pub mod PublishedCalls
pub mod QueryMeaning
pub mod RankLaws
pub mod Replace
pub mod TimelineActivate
pub mod WaitPromise
