use Rattle.std.proofs.Common.{◌≡◌, ℕ, ◌<◌, Some, List, [], ◌∷◌, length, rules, ap, sym, subst, refl, ◌∙◌, arith}
use Rattle.node_heap.specs.Links.{count}
use Rattle.node_heap.specs.Forms.{links_of}
use Rattle.node_heap.proofs.Counts.{test_same, count-cons}
use Rattle.pool_text.specs.Rows.{row_form}
use Rattle.pool_text.specs.declared.row.Row.{Row}
use Rattle.pool_text.proofs.relink.relinked.Goals as goal

-- the links of a row
abbrev links : Row → List ℕ
links row = links_of (Some (row_form row))

-- both links of a row that has two are within the list
module _ (row : Row) (many k v : ℕ) (low : (j : ℕ) → 0 < count j (links row) → j < many) (are : k ∷ v ∷ [] ≡ links row) where
  first-low : k < many
  first-low = low k (subst (λ (ks : List ℕ). 0 < count k ks) are (omega (arith, count-cons k k (v ∷ []), test_same k k refl)))

  second-low : v < many
  second-low = low v (subst (λ (ks : List ℕ). 0 < count v ks) are (omega (arith, count-cons v k (v ∷ []), count-cons v v [], test_same v v refl)))

pub at_places-requires : goal.at_places-requires
at_places-requires c = record { low = λ k has. c.requires.low k (subst (λ (ks : List ℕ). 0 < count k ks) (c.as_slice.ensures ∙ ap links (sym c.in-Leaf.is)) has) }

pub at_places-requires-in-Inner : goal.at_places-requires-in-Inner
at_places-requires-in-Inner c = record { low = λ k has. c.requires.low k (subst (λ (ks : List ℕ). 0 < count k ks) (c.as_slice-in-Inner.ensures ∙ ap links (sym c.in-Inner.is)) has) }

pub at_places-requires-in-Trie : goal.at_places-requires-in-Trie
at_places-requires-in-Trie c = record { low = λ k has. c.requires.low k (subst (λ (ks : List ℕ). 0 < count k ks) (c.as_slice-in-Trie.ensures ∙ ap links (sym c.in-Trie.is)) has) }

pub at_places-requires-in-Chain : goal.at_places-requires-in-Chain
at_places-requires-in-Chain c = record { low = λ k has. c.requires.low k (subst (λ (ks : List ℕ). 0 < count k ks) (c.as_slice-in-Chain.ensures ∙ ap links (sym c.in-Chain.is)) has) }

pub offset_bounds-places-key : goal.offset_bounds-places-key
offset_bounds-places-key c =
    let inside : c.in-Pair.key < length c.args.places.now = first-low c.args.row.now (length c.args.places.now) c.in-Pair.key c.in-Pair.value c.requires.low (ap links (sym c.in-Pair.is)) in
    search rules

pub bounds-places-key : goal.bounds-places-key
bounds-places-key c = first-low c.args.row.now (length c.args.places.now) c.in-Pair.key c.in-Pair.value c.requires.low (ap links (sym c.in-Pair.is))

pub offset_bounds-places-value : goal.offset_bounds-places-value
offset_bounds-places-value c =
    let inside : c.in-Pair.value < length c.args.places.now = second-low c.args.row.now (length c.args.places.now) c.in-Pair.key c.in-Pair.value c.requires.low (ap links (sym c.in-Pair.is)) in
    search rules

pub bounds-places-value : goal.bounds-places-value
bounds-places-value c = second-low c.args.row.now (length c.args.places.now) c.in-Pair.key c.in-Pair.value c.requires.low (ap links (sym c.in-Pair.is))

pub offset_bounds-places-buffers : goal.offset_bounds-places-buffers
offset_bounds-places-buffers c =
    let inside : c.in-State.buffers < length c.args.places.now = first-low c.args.row.now (length c.args.places.now) c.in-State.buffers c.in-State.stars c.requires.low (ap links (sym c.in-State.is)) in
    search rules

pub bounds-places-buffers : goal.bounds-places-buffers
bounds-places-buffers c = first-low c.args.row.now (length c.args.places.now) c.in-State.buffers c.in-State.stars c.requires.low (ap links (sym c.in-State.is))

pub offset_bounds-places-stars : goal.offset_bounds-places-stars
offset_bounds-places-stars c =
    let inside : c.in-State.stars < length c.args.places.now = second-low c.args.row.now (length c.args.places.now) c.in-State.buffers c.in-State.stars c.requires.low (ap links (sym c.in-State.is)) in
    search rules

pub bounds-places-stars : goal.bounds-places-stars
bounds-places-stars c = second-low c.args.row.now (length c.args.places.now) c.in-State.buffers c.in-State.stars c.requires.low (ap links (sym c.in-State.is))
