pub mod Operated
pub mod Playing
pub mod private
pub mod Results
