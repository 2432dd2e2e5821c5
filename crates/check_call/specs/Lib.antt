pub mod Checking
pub mod Secured
