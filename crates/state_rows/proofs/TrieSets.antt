-- What a trie tells of its entries, however deep it goes: their keys are those of their rows, and no other entries have that trie.
use Rattle.std.proofs.Common.{◌≡◌, ℕ, ◌+◌, List, [], ◌∷◌, Some, length, map, refl, ap, sym, subst, ◌∙◌, arith, inl, inr}
use Rattle.std.specs.List.{All}
use Rattle.std.specs.Ordering.{nat_cmp}
use Rattle.std.specs.Cmp.Lexicographic.{slice_cmp}
use Rattle.std.proofs.lemmas.List.Elements.{All-nil, All-cons}
use Rattle.node_heap.specs.Forms.{Forms}
use Rattle.champ_chain.specs.Entry.{Entry, entry, key_at, IsEntry, SameSet, same_through}
use Rattle.champ_chain.proofs.SetLemmas.{Among, same-sym, same-among}
use Rattle.champ_trie.specs.Trie.{IsTrie}
use Rattle.champ_trie.proofs.CanonLemmas.{same-lift}
use Rattle.champ_trie.proofs.WalkLemmas.{trie-walk, trie-entries}
use Rattle.shell_terms.specs.Edit.{Bytes}

all-among : {X : Type 0} (Q : X → Type 0) (xs : List X) → ((x : X) → Among x xs → Q x) → All Q xs
all-among Q [] each = All-nil Q
all-among Q (x ∷ xs) each = All-cons Q x xs (each x (inl refl)) (all-among Q xs (λ y i. each y (inr i)))

-- entries with the same links, whose keys are those of their rows, are the same
link-keys : (F : Forms Bytes) (E D : List (Entry Bytes)) → map (λ e. e.link) E ≡ map (λ e. e.link) D → ((e : Entry Bytes) → Among e E → IsEntry F e) → ((e : Entry Bytes) → Among e D → IsEntry F e) → E ≡ D
link-keys F [] [] same are are' = refl
link-keys F [] (d ∷ ds) same are are' = absurd cc
link-keys F (e ∷ es) [] same are are' = absurd cc
link-keys F (e ∷ es) (d ∷ ds) same are are' =
    let link : e.link ≡ d.link = cc in
    let rest : map (λ (x : Entry Bytes). x.link) es ≡ map (λ (x : Entry Bytes). x.link) ds = cc in
    let key : e.key ≡ d.key = (let both : Some e.key ≡ Some d.key = sym (are e (inl refl)) ∙ ap (key_at F) link ∙ are' d (inl refl) in cc) in
    ap (λ k. entry k e.link ∷ es) key ∙ ap (λ l. entry d.key l ∷ es) link ∙ ap (λ xs. d ∷ xs) (link-keys F es ds rest (λ x i. are x (inr i)) (λ x i. are' x (inr i)))

module _ (code : Bytes → ℕ) (F : Forms Bytes) (left depth l : ℕ) where
  pub all-named : (E : List (Entry Bytes)) → IsTrie (slice_cmp nat_cmp) code F left depth l E → All (IsEntry F) E
  all-named E is = all-among (IsEntry F) E (trie-entries (slice_cmp nat_cmp) code F left depth l E is)

  pub one-set : (E D : List (Entry Bytes)) → IsTrie (slice_cmp nat_cmp) code F left depth l E → IsTrie (slice_cmp nat_cmp) code F left depth l D → SameSet E D
  one-set E D here there =
      let n = length E + length D in
      let first = trie-walk (slice_cmp nat_cmp) code F left depth l E here (left + n) n (omega arith) (omega arith) in
      let second = trie-walk (slice_cmp nat_cmp) code F left depth l D there (left + n) n (omega arith) (omega arith) in
      let lift = same-lift (λ (e : Entry Bytes). e.link) E (map (λ e. e.link) E) (map (λ e. e.link) D) refl (same_through _ _ _ (same-sym _ _ first) second) in
      let is = link-keys F lift.0 D lift.2 (λ e i. trie-entries (slice_cmp nat_cmp) code F left depth l E here e (same-among e lift.0 E (same-sym _ _ lift.1) i)) (trie-entries (slice_cmp nat_cmp) code F left depth l D there) in
      subst (SameSet E) is lift.1
