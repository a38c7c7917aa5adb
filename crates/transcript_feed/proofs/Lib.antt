pub mod ReadLemmas
pub mod TickLemmas
mod SinkLemmas
mod FeedLemmas
mod IntakeLemmas
mod KeptLemmas
