mod GivenProofs
mod Asks
mod OnceListed
mod RefusedListed
mod SitePoints
mod SiteRanges
mod SiteLaws
mod WholeProgram
mod OthersListed
mod Examples
pub mod DeclaredLaws
