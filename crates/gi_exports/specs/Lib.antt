pub mod Lines
pub mod Csv
pub mod Sheet
pub mod Json
pub mod Laws
