pub mod Atomic
pub mod Apart
pub mod Taken
pub mod LetBindings
