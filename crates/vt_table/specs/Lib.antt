pub mod Calls
pub mod private
pub mod Lists
pub mod Names
pub mod Notes
