-- The words of private clauses and of the parser's: none of it belongs to what a text means.
pub mod Sets
pub mod Parsing
