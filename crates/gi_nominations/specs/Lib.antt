pub mod FaultText
pub mod Lines
pub mod Book
pub mod PortfolioDay
pub mod BookRepr
pub mod Judging
