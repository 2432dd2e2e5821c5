pub mod CodeLaws
pub mod ObjectLaws
pub mod CodeRunLaws
pub mod BigLaws
