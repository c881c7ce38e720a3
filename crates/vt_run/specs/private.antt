-- What only the clauses of private functions cite.
pub mod Passing
pub mod Verdicts
