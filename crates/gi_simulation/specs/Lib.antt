pub mod Simulation
pub mod OutcomeText
pub mod Trace
pub mod Runs
pub mod Refused
pub mod OnItsWay
pub mod Laws
