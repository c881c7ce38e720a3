-- What calls give is within the limits of the language.
pub mod Answers
pub mod Arguments
pub mod Arithmetic
pub mod Calls
pub mod Fractions
pub mod MakeCalls
pub mod NoteCalls
pub mod NumberCalls
pub mod PartCalls
pub mod RandomCalls
pub mod Values
