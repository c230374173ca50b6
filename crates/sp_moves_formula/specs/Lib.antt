pub mod Sought
pub mod Parts
pub mod WhyNot
