pub mod OneFormula
mod Depth
mod Stuck
mod Faithful
mod Enclosed
pub mod Taken
pub mod Plain
