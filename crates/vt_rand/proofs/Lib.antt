pub mod DrawLemmas
pub mod Period
pub mod WordLemmas
