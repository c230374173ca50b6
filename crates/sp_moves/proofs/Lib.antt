pub mod CasesThere
pub mod Occurring
pub mod NoEvent
pub mod Going
