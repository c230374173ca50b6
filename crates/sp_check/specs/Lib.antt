pub mod Judging
pub mod Laws
pub mod Nodes
pub mod Rejected
pub mod Skeleton
pub mod View
