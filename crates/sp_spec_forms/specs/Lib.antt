pub mod Shifted
pub mod Narrowing
pub mod Alike
pub mod Numbering
pub mod Reducible
pub mod Forms
