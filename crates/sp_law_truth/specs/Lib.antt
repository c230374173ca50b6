pub mod Shown
pub mod Same
pub mod Laws
