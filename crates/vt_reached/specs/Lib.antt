pub mod Fit
pub mod Leading
