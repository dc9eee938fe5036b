pub mod Parts
pub mod Gathering
pub mod Splitting
pub mod Laws
pub mod Hours
pub mod Joining
pub mod Walks
