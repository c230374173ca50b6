pub mod Fresh
pub mod FreshOnce
pub mod LinearOnce
pub mod Premise
pub mod SourceTwice
pub mod ReducibleEvent
pub mod Compare
pub mod More
