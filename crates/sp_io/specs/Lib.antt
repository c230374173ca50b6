pub mod Told
pub mod Calls
pub mod Shelf
pub mod Slate
pub mod Sure
