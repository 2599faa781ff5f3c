pub mod Coset
pub mod Laws
pub mod Sums
