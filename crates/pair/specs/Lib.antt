pub mod BabyBearPairs
pub mod Laws
pub mod Pair
pub mod Printed
