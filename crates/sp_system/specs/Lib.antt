pub mod WayView
pub mod EventFacts
pub mod SystemView
pub mod SpendView
pub mod Reduced
pub mod LearntBy
pub mod Stays
