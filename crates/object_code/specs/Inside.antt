-- Words of private contracts. What is promised doesn't rest on them.
pub mod ObjectReading
pub mod Given
pub mod Known
