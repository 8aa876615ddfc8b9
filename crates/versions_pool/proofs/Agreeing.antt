-- A trie by one order and code is one by another order and code that say the same of its keys.
use Rattle.std.proofs.Common.{◌≡◌, ℕ, zero, suc, cond, List, [], ◌∷◌, refl, ap, sym, subst, ◌∙◌}
use Rattle.std.specs.Prelude.{nat_eq}
use Rattle.std.specs.List.{All}
use Rattle.std.specs.declared.cmp.Ordering.{Ordering}
use Rattle.std.proofs.lemmas.List.Elements.{All-head, All-tail, All-filter}
use Rattle.elem_core.specs.Codes.{digit_at}
use Rattle.node_heap.specs.Forms.{Forms}
use Rattle.champ_chain.specs.Entry.{Entry}
use Rattle.champ_chain.specs.Chain.{AreAbove, IsRising}
use Rattle.champ_chain.proofs.SetLemmas.{same-sym}
use Rattle.champ_trie.specs.Trie.{IsPlace, part, IsTrie, place_of}
use Rattle.champ_trie.specs.declared.place.Place.{Place}
use Rattle.champ_trie.specs.declared.place.Place.TheVariants.{Entry as At, Node, Empty}
use Rattle.champ_kinds.proofs.ZipLemmas.{all-turned}

module _ {K : Type 0} (cmp other : K → K → Ordering) (code coded : K → ℕ) (Fits : K → Type 0) (order : (x y : K) → Fits x → Fits y → other x y ≡ cmp x y) (codes : (x : K) → Fits x → coded x ≡ code x) where
  abbrev pub KeyFits : Entry K → Type 0
  KeyFits e = Fits e.key

  above-agrees : (key : K) → Fits key → (es : List (Entry K)) → All KeyFits es → AreAbove cmp key es → AreAbove other key es
  above-agrees key fits [] all above = tt
  above-agrees key fits (e ∷ es) all above = (order key e.key fits (All-head KeyFits e es all) ∙ above.0, above-agrees key fits es (All-tail KeyFits e es all) above.1)

  rising-agrees : (es : List (Entry K)) → All KeyFits es → IsRising cmp es → IsRising other es
  rising-agrees [] all rising = tt
  rising-agrees (e ∷ es) all rising = (above-agrees e.key (All-head KeyFits e es all) es (All-tail KeyFits e es all) rising.0, rising-agrees es (All-tail KeyFits e es all) rising.1)

  part-agrees : (d p : ℕ) (E : List (Entry K)) → All KeyFits E → part other coded d p E ≡ part cmp code d p E
  part-agrees d p [] all = refl
  part-agrees d p (e ∷ es) all =
      ap (λ n. cond (nat_eq (digit_at n d) p) (e ∷ part other coded d p es) (part other coded d p es)) (codes e.key (All-head KeyFits e es all))
      ∙ ap (λ (ys : List (Entry K)). cond (nat_eq (digit_at (code e.key) d) p) (e ∷ ys) ys) (part-agrees d p es (All-tail KeyFits e es all))

  module _ (F : Forms K) where
    place-agrees : (N M : ℕ → List (Entry K) → Type 0) (P : List (Entry K)) → ((k : ℕ) → N k P → M k P) → (place : Place) → IsPlace F N place P → IsPlace F M place P
    place-agrees N M P deeper Empty stands = stands
    place-agrees N M P deeper (At x) stands = stands
    place-agrees N M P deeper (Node k) stands = (stands.0, deeper k stands.1)

    pub trie-agrees : (left d l : ℕ) (E : List (Entry K)) → All KeyFits E → IsTrie cmp code F left d l E → IsTrie other coded F left d l E
    unfolding IsTrie
    trie-agrees zero d l E all is = record {
      entries = is.entries;
      rows = is.rows;
      rising = rising-agrees is.entries (all-turned KeyFits E is.entries (same-sym is.entries E is.same) all) is.rising;
      same = is.same;
      two = is.two;
    }
    trie-agrees (suc left) d l E all is = record {
      entries = is.entries;
      nodes = is.nodes;
      links = is.links;
      row = is.row;
      places = λ p small.
          let P : List (Entry K) = part cmp code d p E in
          subst (IsPlace F (λ k Q. IsTrie other coded F left (suc d) k Q) (place_of is.entries is.nodes is.links p)) (sym (part-agrees d p E all))
          (place-agrees (λ k Q. IsTrie cmp code F left (suc d) k Q) (λ k Q. IsTrie other coded F left (suc d) k Q) P
          (λ k under. trie-agrees left (suc d) k P (All-filter (λ e. nat_eq (digit_at (code e.key) d) p) KeyFits E all) under) (place_of is.entries is.nodes is.links p) (is.places p small));
    }
