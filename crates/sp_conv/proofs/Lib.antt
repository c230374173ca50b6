pub mod Terms
pub mod Tests
pub mod Forms
pub mod Searches
