pub mod Construction
pub mod Laws
pub mod View
pub mod Absorbing
pub mod Down
pub mod Sourced
pub mod Steps
pub mod Executing
