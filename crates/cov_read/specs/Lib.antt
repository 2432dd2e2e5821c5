pub mod Templates
pub mod Inside
pub mod WrittenViews
pub mod CertViews
pub mod StateViews
pub mod StmtViews
pub mod DeclViews
