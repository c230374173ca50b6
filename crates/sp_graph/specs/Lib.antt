pub mod Edges
pub mod EdgesView
pub mod Graph
pub mod Laws
