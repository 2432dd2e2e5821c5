mod ForgetLaws
mod LockLaws
mod WalkLaws
mod GroupLaws
pub mod NextLaws
mod SharedLaws
mod TypeLaws
pub mod VariableLaws
mod DropLaws
mod OnceLaws
mod KeyLaws
mod KeyedLaws
mod RetainLaws
pub mod TyLaws
