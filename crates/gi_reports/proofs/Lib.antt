pub mod ColumnLemmas
pub mod CountLemmas
pub mod CycleLemmas
pub mod ConfirmedLemmas
pub mod PlaceLemmas
