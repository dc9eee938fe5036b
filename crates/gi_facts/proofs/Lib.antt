pub mod ReadingLemmas
pub mod WritingLemmas
pub mod SameLemmas
pub mod BatchLemmas
