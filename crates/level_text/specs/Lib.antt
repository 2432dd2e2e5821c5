pub mod Lattice
pub mod Views
pub mod TextTrees
pub mod TextGrammar
pub mod TextViews
pub mod TextFaults
pub mod LevelReads
pub mod Inside
