pub mod Again
pub mod Laws
pub mod Named
