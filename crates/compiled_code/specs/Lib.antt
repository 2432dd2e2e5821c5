pub mod Compiled
pub mod Matches
pub mod SecureCode
pub mod LoadBound
pub mod GoodCode
pub mod Records
