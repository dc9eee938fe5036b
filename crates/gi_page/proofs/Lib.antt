pub mod KeyLemmas
pub mod SumLemmas
pub mod LawLemmas
pub mod BookLemmas
pub mod MarkLemmas
