pub mod KnownLines
pub mod Spots
pub mod PointLines
