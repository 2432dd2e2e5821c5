pub mod ParseLaws
pub mod NameLaws
pub mod LimitItems
pub mod LimitLaws
pub mod GivenItems
pub mod BlockLaws
