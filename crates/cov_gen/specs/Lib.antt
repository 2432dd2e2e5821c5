pub mod Big
