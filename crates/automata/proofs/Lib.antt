pub mod StepLemmas
pub mod NumberingLemmas
pub mod BuildLemmas
pub mod CountLemmas
pub mod PairLemmas
