mod WordLemmas
mod NameLemmas
mod OneInstruction
mod TakeLemmas
mod OneRequest
mod OneScript
mod FormsLemmas
mod MoveLemmas
pub mod FurtherLemmas
