mod BitLaws
pub mod HeldLaws
mod LockSetLaws
pub mod MaskLaws
mod StartLaws
mod TurnedLaws
