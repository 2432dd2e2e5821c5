pub mod Object
pub mod ObjectAnswers
pub mod Inside
