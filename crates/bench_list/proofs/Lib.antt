pub mod LineSteps
pub mod ReadSteps
pub mod RisingSteps
