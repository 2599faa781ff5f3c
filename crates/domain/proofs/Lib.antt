pub mod Embedding
pub mod Logs
pub mod Fronted
pub mod Ratios
pub mod Sampled
pub mod Steps
pub mod Through
