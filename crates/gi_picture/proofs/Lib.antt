pub mod NumberLemmas
pub mod RunLemmas
pub mod ScaleLemmas
pub mod ChartLemmas
pub mod LawLemmas
pub mod FrameLemmas
pub mod DayLemmas
