pub mod Best
pub mod LawLemmas
pub mod OwnPlaces
pub mod ScanLemmas
