pub mod Ring
pub mod Pairs
pub mod Field
pub mod Polynomial
pub mod Products
pub mod Lagrange
pub mod Domain
