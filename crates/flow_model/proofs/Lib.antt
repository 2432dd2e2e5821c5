mod Examples
pub mod WordBodies
pub mod Turns
pub mod Compose
pub mod Firsts
pub mod Marking
pub mod Apart
pub mod Decided
pub mod Holders
