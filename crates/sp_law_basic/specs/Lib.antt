pub mod BasicTheory
pub mod Laws
pub mod Restrictions
