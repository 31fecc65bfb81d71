pub mod OutputLemmas
pub mod PairLemmas
pub mod RunLemmas
pub mod StreamLemmas
pub mod WalkingLemmas
pub mod SteppingLemmas
