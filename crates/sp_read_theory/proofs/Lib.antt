pub mod Declared
pub mod OneTheory
pub mod Spans
pub mod Gone
pub mod Whole
