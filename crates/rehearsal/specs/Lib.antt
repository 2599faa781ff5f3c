pub mod Runs
pub mod Driven
pub mod Agreement
