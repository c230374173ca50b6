pub mod Declaring
pub mod EquationForms
pub mod SymbolsClean
pub mod UnknownClean
pub mod EquationsClean
pub mod EquationsOver
pub mod FirstNamed
