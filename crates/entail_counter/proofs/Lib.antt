pub mod Memories
pub mod Breaking
mod Examples
