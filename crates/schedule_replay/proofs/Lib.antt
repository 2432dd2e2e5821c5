mod Examples
pub mod StepLaws
pub mod PairLaws
pub mod QuietLaws
pub mod QuietCodeLaws
pub mod ReadLaws
pub mod ApartLaws
