mod Pieces
mod Ranges
mod SpotLaws
mod TellingLaws
