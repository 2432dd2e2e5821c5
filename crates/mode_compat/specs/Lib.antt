pub mod Compatible
pub mod Declared
pub mod HeldSets
pub mod Inside
