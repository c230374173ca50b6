pub mod Executable
pub mod Traces
pub mod Restricted
pub mod Found
pub mod Sought
pub mod Learning
pub mod Ends
