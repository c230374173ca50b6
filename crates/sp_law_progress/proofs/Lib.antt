pub mod Occurring
pub mod Positions
pub mod Kept
pub mod Compare
pub mod Same
pub mod NewValues
pub mod Top
pub mod More
