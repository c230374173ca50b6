pub mod ByMessage
pub mod ByAction
pub mod PassedOver
pub mod Places
pub mod Parts
pub mod Exact
