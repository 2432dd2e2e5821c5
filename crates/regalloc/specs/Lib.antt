pub mod Plan
pub mod PartRegisters
pub mod Stable
pub mod TrueRecord
