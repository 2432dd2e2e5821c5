pub mod Levels
pub mod CertLaws
pub mod StateLaws
pub mod StmtLaws
pub mod DeclLaws
