pub mod Block
pub mod Alike
pub mod Laws
