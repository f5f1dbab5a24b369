pub mod Limits
pub mod Leads
pub mod LeadsLaws
pub mod NewNames
