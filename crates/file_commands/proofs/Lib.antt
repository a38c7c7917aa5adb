pub mod AuditEndings
pub mod ConvertEndings
pub mod PublicEndings
pub mod PartsEndings
pub mod TwinEndings
pub mod BillingEndings
pub mod InspectEndings
mod PouringLemmas
