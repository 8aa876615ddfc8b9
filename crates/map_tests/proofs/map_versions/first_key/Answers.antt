use Rattle.std.proofs.Common.{ℕ, List, [], ◌∷◌, refl, sym, subst, map, IsSome, inl, inr}
use Rattle.std.specs.List.{AllZip}
use Rattle.node_heap.specs.Heap.{Heap, row_at, form_at}
use Rattle.champ_chain.specs.Entry.{Entry}
use Rattle.champ_chain.proofs.SetLemmas.{Among, same-among}
use Rattle.champ_kinds.specs.Binding.{Binding}
use Rattle.champ_kinds.specs.Kinds.{IsPair}
use Rattle.champ_kinds.proofs.PairRows.{pair-live}
use Rattle.map_tests.proofs.map_versions.first_key.Goals as goal

module _ {T : Type 0} (h : Heap T) where
  -- the row of each entry is there
  entries-live : (E : List (Entry T)) (M : List (Binding T)) → AllZip (IsPair (form_at h)) E M → (x : ℕ) → Among x (map (λ e. e.link) E) → IsSome (row_at h x)
  entries-live [] M are x nowhere = absurd nowhere
  entries-live (e ∷ es) [] are x at = absurd are
  entries-live (e ∷ es) (b ∷ bs) are x (inl same) = subst (λ l. IsSome (row_at h l)) same (pair-live h are.0)
  entries-live (e ∷ es) (b ∷ bs) are x (inr at) = entries-live es bs are.1 x at

pub links-requires : goal.links-requires
links-requires g c =
    let M = c.requires.0 in
    let are = c.entries.ensures.pairs M c.requires.1 in
    let first = subst (λ ls. Among c.in_ok-entry.entry ls) (sym c.in_ok-entry.ensures.steps) (inl refl) in
    entries-live c.args.heap.now are.entries M are.pairs c.in_ok-entry.entry (same-among c.in_ok-entry.entry c.entries.result (map (λ e. e.link) are.entries) are.same first)
