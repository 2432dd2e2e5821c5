pub mod CodeShares
pub mod CodeLines
pub mod CompiledShares
pub mod Inside
