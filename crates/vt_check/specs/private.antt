-- What only the clauses of private functions cite.
pub mod Finding
pub mod Judging
