pub mod GivenInOneList
pub mod Notes
pub mod Patterns
pub mod private
pub mod Reading
