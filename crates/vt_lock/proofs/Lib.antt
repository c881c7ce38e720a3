pub mod Sums
pub mod NumberLemmas
pub mod LogLemmas
pub mod OneView
pub mod Steps
pub mod SplitAndJoin
pub mod StartAndEnd
pub mod BetweenCalls
