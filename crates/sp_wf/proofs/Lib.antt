pub mod NamesClean
pub mod NamesBefore
pub mod ItemSteps
pub mod ItemKinds
pub mod ItemsClean
pub mod BindingsClean
pub mod StatementsClean
pub mod ReportClean
