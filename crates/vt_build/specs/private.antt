-- What the clauses of this crate and of the parser's private functions cite.
pub mod Rows
pub mod Classes
pub mod Made
