pub mod Polys
pub mod Inside
pub mod Values
pub mod Ring
pub mod View
pub mod SamePolynomial
