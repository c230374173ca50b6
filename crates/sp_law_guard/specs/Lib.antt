pub mod GuardedForm
pub mod IsGuarded
pub mod Symbols
pub mod Closed
pub mod Proper
pub mod CheckedForm
pub mod Laws
