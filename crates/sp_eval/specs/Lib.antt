pub mod View
pub mod Found
