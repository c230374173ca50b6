pub mod Binding
pub mod Places
pub mod Resolving
pub mod Valued
