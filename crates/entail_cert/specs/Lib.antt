pub mod Answers
pub mod Axioms
pub mod HeldTerms
pub mod Inside
pub mod Makes
pub mod Valid
pub mod WordTests
