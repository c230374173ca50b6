pub mod Laws
pub mod Proofs
pub mod Rules
