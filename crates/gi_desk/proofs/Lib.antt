mod Called
pub mod Confirmed
pub mod CycleLaws
mod Decoded
pub mod Differing
pub mod Fitting
pub mod HistoryLaws
mod CacheLaws
pub mod Gatherings
mod SureDecisions
mod LastClosed
mod Leaving
pub mod Legality
pub mod LettingOut
pub mod Outcomes
pub mod PartsOfTables
pub mod ReadableLaws
mod RecordingCalls
mod Replaying
mod StageReadings
pub mod StageLaws
mod StagesKept
pub mod StateLaws
pub mod StepFacts
pub mod StepLaws
mod TakingLaws
mod Told
