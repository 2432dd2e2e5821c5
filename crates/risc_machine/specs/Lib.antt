pub mod Faults
pub mod Machine
pub mod CodeAgreement
pub mod Running
pub mod Inside
