pub mod FloorLemmas
pub mod Fractions
pub mod Layers
pub mod SameLemmas
pub mod TextLemmas
pub mod WalkLemmas
