pub mod NormalStep
pub mod Taken
pub mod Given
pub mod Laws
