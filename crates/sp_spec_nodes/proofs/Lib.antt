pub mod Preorder
pub mod Gathered
pub mod Walks
