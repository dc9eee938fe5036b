pub mod Asked
pub mod ReportWords
pub mod Sessions
pub mod Numbers
pub mod Wait
pub mod Expected
pub mod CommandLine
pub mod Laws
