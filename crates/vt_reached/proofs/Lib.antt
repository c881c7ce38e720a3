pub mod AllowedBlocks
pub mod AllowedCalls
pub mod CallNames
pub mod CallRules
pub mod LedRuns
pub mod LedThreads
pub mod ReachRules
pub mod TextRows
