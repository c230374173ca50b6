pub mod Places
pub mod Apart
pub mod Constructors
pub mod Nameless
pub mod Agreement
pub mod Convergent
