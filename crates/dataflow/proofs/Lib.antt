pub mod FlowLemmas
pub mod SettleLemmas
pub mod TakeLemmas
pub mod DependentLemmas
pub mod AnalysisLemmas
pub mod AvailabilityLemmas
