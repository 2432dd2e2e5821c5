pub mod Additions
pub mod Sides
