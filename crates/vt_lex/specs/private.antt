-- What only the clauses of private functions cite.
pub mod Measures
pub mod Spelled
pub mod Stands
