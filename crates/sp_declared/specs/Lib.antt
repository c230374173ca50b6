pub mod Equations
pub mod NumberedView
pub mod Symbols
pub mod View
pub mod WrittenRules
pub mod Constants
pub mod OnceLaws
