pub mod ClimbLemmas
pub mod ExactLemmas
pub mod InvertLemmas
pub mod SortLemmas
pub mod WordLists
