-- Texts, readings and plans, whatever the command.
pub mod TextLaws
pub mod ReadingLaws
pub mod PlanLaws
