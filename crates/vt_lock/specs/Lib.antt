pub mod Numbers
pub mod Logs
pub mod SeatFacts
pub mod Views
pub mod TurnRule
pub mod private
