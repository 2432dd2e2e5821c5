pub mod Terms
pub mod Point
pub mod After
pub mod AtModes
