pub mod Replies
pub mod AnswerViews
pub mod Lines
pub mod Reports
pub mod Differences
pub mod Ends
pub mod Inside
