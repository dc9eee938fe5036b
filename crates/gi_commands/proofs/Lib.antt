mod Audits
mod TableFaults
mod BookFaults
mod ExplainingLemmas
pub mod SimulatingLemmas
