pub mod ListingView
pub mod Found
pub mod View
