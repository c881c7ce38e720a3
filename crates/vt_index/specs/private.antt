pub mod Nearest
pub mod Rows
