pub mod Logarithm
pub mod Periodic
pub mod Pieces
pub mod Points
pub mod Selected
pub mod Split
pub mod Zero
