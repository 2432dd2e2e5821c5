pub mod NameLaws
pub mod Feeds
