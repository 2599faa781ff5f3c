pub mod Degree
pub mod Expression
