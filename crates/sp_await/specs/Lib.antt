pub mod Keywords
pub mod Parts
pub mod Table
pub mod Stack
pub mod Views
