-- What only models of private things cite.
pub mod Numbers
pub mod Rounds
