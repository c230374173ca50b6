pub mod Deciding
pub mod Normal
pub mod Laws
