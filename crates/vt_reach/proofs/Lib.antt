pub mod InnerLemmas
mod PathLemmas
pub mod Places
mod ReachLemmas
mod SearchLemmas
pub mod TreeFounds
pub mod TreeUses
