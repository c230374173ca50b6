pub mod Covering
pub mod Finish
pub mod MovesCover
pub mod Once
pub mod Simplifying
pub mod SolvedAction
