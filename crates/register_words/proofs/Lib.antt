pub mod HidingLemmas
pub mod ReadingLemmas
pub mod ReportLemmas
pub mod RowLemmas
pub mod ShareLoops
pub mod SideLemmas
pub mod TotalLemmas
pub mod WorldLemmas
