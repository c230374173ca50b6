pub mod Next
pub mod Replay
pub mod View
pub mod Laws
