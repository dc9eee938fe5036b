pub mod Columns
pub mod Refused
pub mod Cycles
pub mod Open
pub mod Confirmed
pub mod Counts
pub mod Laws
