pub mod NumberLemmas
pub mod ScopeLemmas
