-- What is noted of the steps of a thread.
pub mod Leads
pub mod Noted
