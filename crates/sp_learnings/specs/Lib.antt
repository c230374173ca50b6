pub mod LearningView
pub mod SettlingView
