pub mod EventFacts
pub mod Spends
pub mod OnlyOne
pub mod TurnsLeft
pub mod Kept
