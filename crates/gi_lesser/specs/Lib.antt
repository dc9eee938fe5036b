pub mod Lesser
pub mod Laws
pub mod Walk
pub mod Parts
