pub mod CallLaws
pub mod LevelLaws
pub mod LevelReplies
pub mod TellingLaws
pub mod UseLaws
pub mod Marking
pub mod UnreachedLaws
pub mod Missed
pub mod CutOff
pub mod NowhereLaws
pub mod ClosedLaws
pub mod HiddenLaws
pub mod VariableLaws
mod WarningExamples
pub mod FrontLaws
pub mod FollowLaws
pub mod BraceLaws
pub mod LanguageLaws
mod ExpectedExamples
