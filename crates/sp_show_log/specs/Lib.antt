pub mod Given
pub mod Numbers
