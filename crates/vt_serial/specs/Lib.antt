pub mod Prepared
pub mod Verdict
