pub mod Forms
pub mod Layers
pub mod Parts
pub mod WellFormed
