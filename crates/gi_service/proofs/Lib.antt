mod Prefixes
mod Agreed
mod Opened
mod Unasked
pub mod Told
mod Begun
mod Copied
