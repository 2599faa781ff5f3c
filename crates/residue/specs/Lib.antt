pub mod Laws
pub mod Moduli
pub mod Prime
pub mod Residue
