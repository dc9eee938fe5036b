mod Agreeing
pub mod ConfirmedLaws
pub mod DeliveredPackets
mod DeskPackets
mod FirstFacts
pub mod Fronts
mod FrozenTables
mod Halted
pub mod HistoryConfirms
mod HistoryLaws
pub mod KeptParts
pub mod Meetings
mod MemoryWanted
pub mod Numbers
pub mod OneQuantity
mod Opening
mod Recorded
mod RunLaws
mod SameTables
pub mod SentPackets
mod Soundness
mod SplitTables
mod StationLemmas
mod StepKeeping
pub mod Taking
mod ToldPackets
