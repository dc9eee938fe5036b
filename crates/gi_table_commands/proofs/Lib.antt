pub mod HoursLemmas
pub mod MatchLemmas
pub mod ShapeLemmas
pub mod CommandLemmas
pub mod Outcomes
pub mod Unasked
