mod PolicyLaws
mod PositionLaws
mod WalkLaws
mod BlockLaws
pub mod NameLaws
mod IdLaws
mod CertLaws
mod UseLaws
mod Each
mod Formed
mod Bodies
pub mod ResolvedLaws
mod Examples
