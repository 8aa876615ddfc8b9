-- What a caller's proofs cite: each lemma speaks of the words of the contracts alone.

-- what an edit keeps beside its owner, and below its elements
pub use Rattle.edit_vec.proofs.LawLemmas.{sets-keep, pushes-keep, pops-keep, pops-keep-held}
-- the leaf over an element
pub use Rattle.edit_vec.proofs.KeptLemmas.{leaf-of}
