pub mod Bills
pub mod BillsText
pub mod Partners
pub mod PartnerEnds
pub mod Searches
pub mod Changes
pub mod Rows
pub mod Statements
