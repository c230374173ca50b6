pub mod Exact
pub mod Begun
pub mod Ends
pub mod Numbers
pub mod Same
