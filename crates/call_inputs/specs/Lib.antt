pub mod Readings
pub mod Rejections
pub mod Plans
pub mod Programs
pub mod Steps
