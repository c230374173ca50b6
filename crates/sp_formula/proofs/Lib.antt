pub mod FreeChanges
pub mod Formulas
pub mod SameParts
pub mod Filled
pub mod Stays
pub mod Fingerprints
