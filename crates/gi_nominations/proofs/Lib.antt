pub mod BookLaws
pub mod FiledLaws
pub mod JudgingLaws
pub mod LinesLaws
