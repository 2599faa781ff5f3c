-- Proofs that the ghost members of impls need, so that they stand here and not in proofs/. No contract cites them.
pub mod Progression
pub mod Terms
pub mod Rests
