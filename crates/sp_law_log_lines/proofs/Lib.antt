pub mod ReadBack
pub mod Alike
pub mod Told
pub mod BlockLines
