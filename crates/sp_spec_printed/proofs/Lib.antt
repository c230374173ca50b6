pub mod SymbolNames
