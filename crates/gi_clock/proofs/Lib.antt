pub mod FeedLemmas
pub mod HeldLemmas
