pub mod Calls
pub mod Items
pub mod Lists
pub mod Making
pub mod Numbers
pub mod private
pub mod Scenes
pub mod Turns
