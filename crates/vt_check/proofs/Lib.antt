pub mod CheckedLemmas
pub mod FindLemmas
pub mod JudgedLemmas
pub mod Judging
pub mod JudgingLemmas
pub mod LawLemmas
pub mod PathLemmas
