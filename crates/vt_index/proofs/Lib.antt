pub mod CutLemmas
pub mod EntryLemmas
pub mod LookUpLemmas
pub mod PositionLemmas
pub mod RowLemmas
