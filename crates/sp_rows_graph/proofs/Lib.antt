pub mod PairSearches
pub mod FreshTerms
pub mod NothingShared
pub mod Sides
