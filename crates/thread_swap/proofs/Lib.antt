mod SwapLaws
mod AloneLaws
mod JudgeLaws
mod ReplaceLaws
mod NamedLaws
mod Replacing
mod NameLaws
mod OverLaws
mod BoundLaws
mod BindLaws
mod LineLaws
mod SecureLines
pub mod FitLaws
mod Examples
