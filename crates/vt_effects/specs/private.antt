-- What only the clauses of private functions cite.
pub mod LastLocal
pub mod Negation
