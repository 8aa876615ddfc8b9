use Rattle.std.proofs.Common.{◌≡◌, ℕ, ap, ◌∙◌}
use Rattle.champ_kinds.specs.Root.{Root}
use Rattle.edit_trie.proofs.set.SetEdit.open.Goals as goal

-- the set by its fields
by-fields : (set : Root) (root bits : ℕ) → root ≡ set.root → bits ≡ set.bits → ◌≡◌ {A = Root} (record { root = root; bits = bits }) set
by-fields set root bits one two = λ i. record { root = one i; bits = two i }

pub returns : goal.returns
returns c = by-fields c.args.set _ _ c.into_root.ensures (c.bits-bits.ensures ∙ ap (λ (q : Root). q.bits) c.view.ensures)
