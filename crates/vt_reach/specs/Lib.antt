pub mod Founds
pub mod Mentions
pub mod Reach
pub mod TreeMentions
pub mod Uses
pub mod private
