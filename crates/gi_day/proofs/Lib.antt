pub mod CycleLemmas
mod DayLemmas
mod DayRange
mod ZoneLemmas
pub mod DayFacts
pub mod DayLaws
