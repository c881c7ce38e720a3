-- What only the clauses of private functions cite.
pub mod Bodies
pub mod Given
pub mod Lists
pub mod Order
pub mod Search
