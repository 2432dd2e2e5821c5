pub mod CheckLaws
pub mod JudgeLaws
pub mod FormedLaws
