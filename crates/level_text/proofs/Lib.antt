mod FindLaws
mod TextItems
pub mod TextSummaries
mod TextAnswers
mod PlaceLaws
mod GivenLaws
mod ReadLaws
mod CalmLaws
mod ScanLaws
pub mod ReadyLaws
pub mod OneReading
mod Examples
