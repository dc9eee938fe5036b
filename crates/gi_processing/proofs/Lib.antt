mod Counterparties
mod HoursLaws
mod KeptLaws
mod KeyLaws
mod LastRecorded
mod PassLaws
mod PortfolioLaws
pub mod PriorityLaws
mod ProcessingLaws
mod ProcessingLemmas
pub mod ProcessingReadings
mod ProcessingRows
pub mod ReadingLaws
pub mod ReductionLaws
mod RowLaws
mod RowOrder
pub mod SoundLaws
