mod ConfirmedLemmas
mod FoundLemmas
mod FrozenLemmas
mod NumberLemmas
mod ReductionLemmas
mod SumLemmas
mod JsonLemmas
