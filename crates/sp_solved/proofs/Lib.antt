pub mod Firsts
pub mod Free
pub mod Stepping
pub mod Giving
pub mod Rounds
pub mod Constant
pub mod Entries
pub mod Asked
