pub mod LesserLaws
mod BothWays
mod Gathering
mod PartLaws
pub mod RowCounts
mod Union
mod WalkAnswers
mod WalkLaws
mod WalkTable
