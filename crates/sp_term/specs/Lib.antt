pub mod View
pub mod LeafLaws
pub mod Bindings
