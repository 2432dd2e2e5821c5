pub mod Locks
pub mod Inside
