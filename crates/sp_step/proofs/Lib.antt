pub mod Exact
pub mod Kept
pub mod Turns
pub mod RowSearches
pub mod Choosing
pub mod EventMoves
pub mod LearningMoves
