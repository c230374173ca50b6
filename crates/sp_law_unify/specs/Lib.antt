pub mod MostGeneral
pub mod Progress
pub mod Laws
