pub mod Giving
pub mod Normal
pub mod Instances
pub mod Premises
pub mod New
pub mod Uneven
pub mod Orders
