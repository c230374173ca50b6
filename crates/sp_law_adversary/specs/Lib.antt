pub mod Held
pub mod Laws
pub mod Lemmas
pub mod Lost
pub mod Learning
