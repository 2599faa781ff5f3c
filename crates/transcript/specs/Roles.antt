-- The two roles of an end. Assumes nothing.
pub data Role : Type 0 where
  prover : Role
  verifier : Role
