pub mod Allowed
pub mod Checked
pub mod Conditions
pub mod Faults
pub mod Laws
pub mod Verdict
pub mod Written
pub mod private
