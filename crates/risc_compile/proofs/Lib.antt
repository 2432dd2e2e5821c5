pub mod PlanLaws
pub mod ExprLaws
pub mod CodeLaws
pub mod Propositions
pub mod ThreadLaws
pub mod StatementViews
