pub mod ChangeLemmas
pub mod SumLemmas
