pub mod Signs
pub mod Lexing
pub mod Tokens
pub mod Classified
pub mod Inside
