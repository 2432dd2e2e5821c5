pub mod Digits
pub mod Short
pub mod Signs
pub mod Pieces
pub mod Steps
pub mod Spelled
pub mod Lexical
pub mod Fronts
mod Examples
