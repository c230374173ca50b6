pub mod Frames
pub mod Held
pub mod Laws
pub mod Lines
pub mod View
