pub mod FormulaFindings
pub mod Statements
pub mod Atoms
pub mod Sought
