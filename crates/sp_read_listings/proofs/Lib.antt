pub mod Making
pub mod Listed
pub mod Beginnings
pub mod Words
pub mod Follows
pub mod Numbers
pub mod SymbolParts
pub mod ListingParts
