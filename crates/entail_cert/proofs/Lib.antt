pub mod Axioms
pub mod Hypotheses
pub mod Instances
pub mod Conditions
pub mod Conjuncts
pub mod Numbers
pub mod Sound
pub mod Truth
