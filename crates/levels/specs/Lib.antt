pub mod Order
pub mod Projection
pub mod Accepted
pub mod Inside
