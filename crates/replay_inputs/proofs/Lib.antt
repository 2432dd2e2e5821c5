-- What files and words are read as.
pub mod InputLaws
pub mod ExpressionLaws
