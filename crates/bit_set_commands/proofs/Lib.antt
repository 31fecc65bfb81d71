pub mod CutLemmas
pub mod LineLemmas
pub mod ReadingLemmas
pub mod SpellingLemmas
pub mod StrangeLemmas
pub mod TextLemmas
