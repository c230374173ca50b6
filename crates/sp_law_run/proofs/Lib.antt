pub mod Counted
pub mod Taking
pub mod Bindings
pub mod Instances
pub mod Runs
pub mod Over
pub mod Written
