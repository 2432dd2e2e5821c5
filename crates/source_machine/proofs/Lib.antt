mod Examples
pub mod FrameLaws
pub mod StackLaws
pub mod TurnLaws
pub mod PartLaws
pub mod PlaceLaws
pub mod AlikeLaws
pub mod ChangeLaws
pub mod MachineLaws
pub mod SourceLaws
