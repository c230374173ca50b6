mod BlockLaws
mod BlockParts
mod BlockTurns
pub mod Budget
pub mod Ends
pub mod Finished
pub mod Gathering
pub mod GrownNodes
pub mod InOrder
pub mod NextPlace
pub mod Replaced
pub mod Told
pub mod Turns
