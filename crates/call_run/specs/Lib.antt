pub mod Runs
pub mod Pairs
pub mod Refutes
pub mod Inside
