pub mod Operands
pub mod Walks
pub mod Weights
