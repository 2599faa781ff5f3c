pub mod Extension
pub mod Numbers
pub mod TwoAdic
