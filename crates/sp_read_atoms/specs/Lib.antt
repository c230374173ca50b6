pub mod Atoms
pub mod Lets
pub mod Laws
