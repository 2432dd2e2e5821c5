pub mod DeeperText
pub mod Inside
