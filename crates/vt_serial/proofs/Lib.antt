pub mod Verdicts
pub mod TextLemmas
