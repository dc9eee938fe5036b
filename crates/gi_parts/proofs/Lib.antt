pub mod Numbers
pub mod Splits
pub mod Keeping
pub mod Wholes
pub mod AnyOrder
pub mod GatheringLaws
