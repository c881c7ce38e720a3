pub mod Composition
pub mod facts
pub mod growth
pub mod notes
pub mod steps
