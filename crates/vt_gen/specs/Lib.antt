pub mod Choices
pub mod Session
