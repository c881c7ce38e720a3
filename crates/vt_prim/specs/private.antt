-- What only the clauses of private functions cite.
pub mod Adding
pub mod Climbing
pub mod Inverting
pub mod Sorting
