pub mod Command
pub mod Answer
pub mod Run
pub mod Headline
