pub mod Bytes
pub mod FirstParts
pub mod Outcomes
pub mod Pieces
pub mod Scores
pub mod CommandLemmas
pub mod CheckLemmas
pub mod LineWords
