pub mod MadeOneView
pub mod MergingView
pub mod JoiningView
