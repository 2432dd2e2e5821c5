pub mod Paths
pub mod Inside
pub mod LocksHeld
pub mod VariableSets
