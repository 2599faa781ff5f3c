pub mod Roles
pub mod Takes
pub mod Seed
pub mod Failures
pub mod Schedule
pub mod Phases
