pub mod LiteralWriting
pub mod Marks
pub mod PathReading
pub mod PatternReading
