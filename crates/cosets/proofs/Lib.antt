pub mod CosetBasis
pub mod CosetPeriod
pub mod CosetSelectors
pub mod CosetValue
pub mod Geometric
pub mod Spread
