pub mod Asking
mod Numerals
mod Parses
mod Shapes
