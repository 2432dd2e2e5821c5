pub mod FoundRange
pub mod TextLaws
