pub mod FirstPart
pub mod Pairs
