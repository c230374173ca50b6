pub mod Extended
pub mod Texts
