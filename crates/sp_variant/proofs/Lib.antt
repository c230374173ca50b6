pub mod Rows
pub mod FactsRows
pub mod Adding
pub mod Seen
pub mod Starts
pub mod Once
