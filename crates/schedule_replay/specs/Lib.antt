pub mod Json
pub mod Starts
pub mod Schedules
pub mod Machines
pub mod Replays
pub mod CodeReplays
pub mod Inside
