pub mod Pairs
pub mod MergingSearches
pub mod MergingPlaces
pub mod Merges
pub mod Turns
