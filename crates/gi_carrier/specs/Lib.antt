pub mod Limits
pub mod Moves
pub mod Carrier
pub mod Kept
pub mod Calls
pub mod FaultText
pub mod Laws
