pub mod Taking
pub mod Described
pub mod Drawing
pub mod Least
pub mod Scheduled
