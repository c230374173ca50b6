pub mod Block
pub mod Shown
pub mod Laws
