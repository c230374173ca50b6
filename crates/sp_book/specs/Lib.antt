pub mod View
pub mod Book
pub mod BookView
