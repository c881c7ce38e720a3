-- One induction over the tree: what is kept by the parts of a run holds of the runs of every thread.
pub mod CallGrowth
pub mod Closures
pub mod Growth
pub mod Rules
pub mod ThreadGrowth
pub mod TreeGrowth
pub mod TreeInduction
