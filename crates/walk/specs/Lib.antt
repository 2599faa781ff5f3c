pub mod Table
pub mod Walk
