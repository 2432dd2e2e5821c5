pub mod WithCertificates
pub mod Annotated
pub mod AnnotatedText
pub mod NotFound
pub mod Inside
