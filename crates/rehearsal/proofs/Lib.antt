pub mod Driving
pub mod Agreeing
