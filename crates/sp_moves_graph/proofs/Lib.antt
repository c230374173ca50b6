pub mod Exact
pub mod PassedOver
