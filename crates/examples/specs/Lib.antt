pub mod Airs
pub mod Domains
