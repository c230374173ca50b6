pub mod Lists
pub mod Applied
