pub mod FileLemmas
pub mod RestartLemmas
pub mod LineLemmas
pub mod HeadEndLemmas
pub mod MeterLemmas
