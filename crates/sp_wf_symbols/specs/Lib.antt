pub mod EquationFindings
pub mod Firsts
pub mod FirstsView
pub mod SymbolFindings
pub mod Told
