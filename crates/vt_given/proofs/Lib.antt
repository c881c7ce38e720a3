pub mod GivenLemmas
pub mod PathLemmas
pub mod PatternLemmas
pub mod RoundLemmas
pub mod SoundingLemmas
