pub mod Lemmas
pub mod Items
pub mod Views
