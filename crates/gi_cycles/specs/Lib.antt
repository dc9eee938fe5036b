pub mod FaultText
pub mod States
