pub mod AroundView
pub mod Laws
pub mod MoveTexts
pub mod Nodes
pub mod Places
pub mod Spelling
pub mod Steps
pub mod TreeText
