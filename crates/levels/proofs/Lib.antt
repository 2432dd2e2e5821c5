pub mod OrderLaws
mod ShownFormed
mod BlockLaws
mod ShowLaws
mod ShownSame
mod CountLaws
mod Examples
pub mod FirstRefused
mod AlikeLaws
