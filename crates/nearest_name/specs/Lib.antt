pub mod Distances
pub mod EditScripts
pub mod NearestNames
pub mod NearestLines
pub mod Inside
