pub mod Reading
pub mod View
pub mod Laws
