pub mod Text
pub mod Variants
pub mod View
pub mod Laws
