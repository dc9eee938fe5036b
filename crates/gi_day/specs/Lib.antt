pub mod CalendarText
pub mod Cycles
pub mod Day
pub mod FrameRepr
pub mod Read
pub mod SameDay
pub mod Zone
