pub mod Leading
pub mod Plain
pub mod Right
pub mod Taken
pub mod Tells
pub mod Words
