pub mod Check
pub mod Forms
pub mod Searches
pub mod Tests
