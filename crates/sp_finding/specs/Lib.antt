pub mod Finding
pub mod Known
pub mod KnownView
pub mod Learning
pub mod TermFindings
pub mod View
