pub mod Moment
pub mod Near
