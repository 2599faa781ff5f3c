pub mod Chunks
pub mod Degrees
