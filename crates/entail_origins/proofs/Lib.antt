pub mod HypothesisExamples
pub mod HypothesisLaws
pub mod LastOrigin
pub mod Ranges
pub mod SameQuestions
pub mod InRange
mod QuestionExamples
pub mod QuestionsInStep
pub mod QuestionCounts
pub mod EachAsked
mod TypeExamples
pub mod GoalLaws
pub mod TypeOriginLaws
mod Watched
