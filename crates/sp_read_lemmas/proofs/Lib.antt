pub mod One
pub mod LemmaHeads
pub mod LemmaParts
pub mod Suffix
