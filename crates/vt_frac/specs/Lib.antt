pub mod Arithmetic
pub mod Decimal
pub mod Divisor
pub mod Fraction
pub mod Names
pub mod Order
pub mod OrderLaws
pub mod Text
