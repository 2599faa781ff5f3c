-- Proofs that the ghost members of impls need, so that they stand here and not in proofs/. No contract cites them.
pub mod Fermat
pub mod Modular
pub mod Residue
pub mod Squares
pub mod Trial
pub mod TwoAdic
