pub mod AnswerLaws
pub mod ReportLaws
pub mod EndLaws
