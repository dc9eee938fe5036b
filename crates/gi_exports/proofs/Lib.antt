pub mod ListingLemmas
pub mod SheetLemmas
pub mod LineLemmas
pub mod SameLines
pub mod ObjectLemmas
