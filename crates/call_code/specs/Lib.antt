pub mod Codes
pub mod Objects
pub mod Inside
pub mod CodeRuns
pub mod Summaries
pub mod BigReplies
