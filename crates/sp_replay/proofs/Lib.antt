pub mod Rules
pub mod Truth
pub mod Truths
pub mod Replied
pub mod One
