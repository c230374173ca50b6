pub mod Exact
pub mod NewVariables
pub mod Parted
pub mod Standing
