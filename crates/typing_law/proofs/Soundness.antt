-- Soundness of the rules: a thread of which every obligation holds is secure. `Whole` says how the proof is laid out.
-- It speaks of definitions alone.
pub mod Fits
pub mod Play
pub mod Static
pub mod Lists
pub mod Exprs
pub mod Conditions
pub mod Assign
pub mod Others
pub mod Sound
pub mod FromObligations
pub mod FromDeclarations
pub mod Whole
pub mod Ends
