pub mod Word
pub mod Draw
