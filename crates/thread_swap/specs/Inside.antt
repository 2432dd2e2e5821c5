-- Lemmas that the laws of judges rest on, and words of private contracts. What is promised doesn't rest on them.
pub mod SameThread
pub mod Lawful
pub mod RulesLaws
pub mod TableLaws
pub mod Over
pub mod Sums
