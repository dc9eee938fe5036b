pub mod BarLemmas
pub mod FlowRunLemmas
pub mod TextLemmas
pub mod LawLemmas
