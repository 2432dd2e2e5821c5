pub mod Points
pub mod PointsBehind
pub mod Traces
