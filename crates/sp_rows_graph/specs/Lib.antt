pub mod LinksView
pub mod FreshView
pub mod SharedView
pub mod InputView
pub mod LearntView
