pub mod AuditEnds
pub mod ConvertEnds
pub mod PublicEnds
pub mod PartsEnds
pub mod Pouring
pub mod TwinEnds
pub mod BillingEnds
pub mod InspectEnds
