pub mod Folds
pub mod RootOrder
pub mod Squaring
