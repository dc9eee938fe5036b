pub mod Texts
pub mod Verbosity
