-- What only the clauses of private functions cite.
pub mod Levels
pub mod Parses
pub mod Ends
