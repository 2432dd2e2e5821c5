pub mod NumberWords
pub mod WordShapes
pub mod WordTerms
pub mod WordTrees
