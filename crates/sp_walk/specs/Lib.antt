pub mod Atoms
pub mod View
