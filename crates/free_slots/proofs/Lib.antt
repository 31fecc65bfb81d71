pub mod RunLemmas
pub mod SlotLemmas
