pub mod FormulaClean
pub mod Using
pub mod Formulas
pub mod OnTerms
