-- The pair of a key in a chain, made one's own.
use Rattle.std.proofs.Common.{◌≡◌, ◌≢◌, ℕ, suc, zero, ◌+◌, ◌<◌, ◌≤◌, List, [], ◌∷◌, ◌++◌, length, take, drop, get_or, set, refl, ap, sym, subst, ◌∙◌, arith, Option, Some, None, IsSome, option_map, inl, inr, append_assoc, length-append}
use Rattle.std.specs.Prelude.{◌-◌, option_to_list, IfSome}
use Rattle.std.specs.List.{find, slice_get}
use Rattle.std.specs.Ordering.{match_ordering}
use Rattle.std.specs.Cmp.{IsTotalOrder}
use Rattle.std.specs.declared.cmp.Ordering.{Ordering}
use Rattle.std.specs.declared.cmp.Ordering.TheVariants.{Equal}
use Rattle.std.proofs.lemmas.Cmp.{tied_back, tied_itself}
use Rattle.std.proofs.lemmas.Option.{slice_get-get_or}
use Rattle.node_heap.specs.Links.{count, HasLink, SameBelow, here}
use Rattle.node_heap.specs.Forms.{Forms, node, chain, links_of, links_in, form_of}
use Rattle.node_heap.specs.Heap.{Heap, row_at, form_at, links_at, IsGraph}
use Rattle.node_heap.specs.Calls.{KeepsBelow}
use Rattle.node_heap.specs.InPlace.{child_at, path_then}
use Rattle.node_heap.specs.Owner.{written, alone}
use Rattle.node_heap.proofs.CallerLemmas.{KeepsPaths-owned, Changes-path, count-link as count-cons, count-append, KeepsBelow-trans, Gains-trans, KeepsAlone-none, KeepsAlone-cons, KeepsAlone-own, alone-yes, alone-own, OwnsChild, child-linked, own-linked, gains-child}
use Rattle.champ_chain.specs.Entry.{Entry, entry, IsEntry, has_key, key_at, put}
use Rattle.champ_chain.specs.Chain.{IsChain, AreChainRows}
use Rattle.champ_chain.specs.KeySpot.{Parts}
use Rattle.champ_chain.proofs.CallerLemmas.{links-form, key-live, take-front, below-same, above-same, same-length, chain-with, find-parts, find-chain}
use Rattle.champ_trie.proofs.CallerLemmas.{forms-below}
use Rattle.edit_trie.specs.Path.{chain_rows, row_and_entry, entry_in, next_in, MakesCopies}
use Rattle.edit_trie.specs.Walk.{EditsChild, HasPair}
use Rattle.edit_trie.specs.Chains.{IsFront, IsPast, OwnsRows, OwnsInChain, link_in}
use Rattle.edit_trie.proofs.RowLemmas.{key-moved, row-form, cells-kept, keys-stay}
use Rattle.edit_trie.proofs.StepLemmas.{find-has, apart-owned}
use Rattle.edit_trie.proofs.ChildLemmas.{own-child, child-then}
use Rattle.edit_trie.proofs.PathLemmas.{chain-row, order-row}
use Rattle.edit_trie.proofs.ChainLemmas.{IsLastRow, front-last, front-path, front-rows, front-rest, front-push, front-stays, front-keyless, child-more, inside-now, past-row, before-same}
use Rattle.edit_trie.proofs.ChainEdits.{rows-below-stay}

-- what isn't counted in a list isn't in its front
pub count-take : (x : ℕ) (ys : List ℕ) (n : ℕ) → count x ys ≡ 0 → count x (take n ys) ≡ 0
count-take x [] zero off = refl
count-take x [] (suc n) off = refl
count-take x (y ∷ ys) zero off = refl
count-take x (y ∷ ys) (suc n) off = omega (arith, count-cons x y ys, count-cons x y (take n ys), off, count-take x ys n (omega (arith, off, count-cons x y ys)))

-- the parts of a chain that has the key
module _ {K : Type 0} (cmp : K → K → Ordering) (o : IsTotalOrder cmp) where
  -- the same parts, by the entry's own key
  own-parts : (F : Forms K) (l : ℕ) (E : List (Entry K)) (key : K) (x : Entry K) (c : IsChain cmp F l E) (p : Parts cmp key c.entries) → p.equal ≡ Some x → cmp x.key key ≡ Equal → Parts cmp x.key c.entries
  own-parts F l E key x c p equal tied = record {
    smaller = p.smaller;
    equal = p.equal;
    greater = p.greater;
    in_order = p.in_order;
    are_smaller = below-same cmp o x.key key tied p.smaller p.are_smaller;
    is_equal = subst (λ q. IfSome q (λ (d : Entry K). cmp x.key d.key ≡ Equal)) (sym equal) (tied_itself o x.key);
    are_greater = above-same cmp o x.key key tied p.greater p.are_greater;
  }

  pub put-same : (F : Forms K) (l : ℕ) (E : List (Entry K)) (key : K) (x : Entry K) (c : IsChain cmp F l E) → find (has_key cmp key) E ≡ Some x → (p : Parts cmp key c.entries) → (G : Forms K) (m y : ℕ)
      → AreChainRows G (Some m) (p.smaller ++ entry x.key y ∷ p.greater) → IsChain cmp G m (put cmp E (entry x.key y))
  unfolding own-parts
  put-same F l E key x c found p G m y rows =
      let equal : p.equal ≡ Some x = sym (find-parts cmp o key c.entries p) ∙ find-chain cmp o F l E key c p ∙ found in
      chain-with cmp o F G l m y E x.key c (own-parts F l E key x c p equal (tied_back o key x.key (find-has cmp key E x found))) rows

  pub found-parts : (F : Forms K) (l : ℕ) (E : List (Entry K)) (key : K) (x : Entry K) (c : IsChain cmp F l E) (p : Parts cmp key c.entries) → find (has_key cmp key) E ≡ Some x → (p.equal ≡ Some x) × (c.entries ≡ (p.smaller ++ x ∷ []) ++ p.greater)
  found-parts F l E key x c p found =
      let equal : p.equal ≡ Some x = sym (find-parts cmp o key c.entries p) ∙ find-chain cmp o F l E key c p ∙ found in
      (equal, p.in_order ∙ ap (λ e. p.smaller ++ (option_to_list e ++ p.greater)) equal ∙ sym (append_assoc p.smaller (x ∷ []) p.greater))

  -- the entries up to that of the key
  pub take-found : (F : Forms K) (l : ℕ) (E : List (Entry K)) (key : K) (x : Entry K) (c : IsChain cmp F l E) (n : ℕ) (p : Parts cmp key c.entries) → length p.smaller ≡ n → find (has_key cmp key) E ≡ Some x
      → (take (n + 1) c.entries ≡ p.smaller ++ x ∷ []) × (n + 1 ≤ length c.entries) × (length c.entries ≡ length E)
  take-found F l E key x c n p before found =
      let parts = found-parts F l E key x c p found in
      let number : n + 1 ≡ length (p.smaller ++ x ∷ []) = omega (arith, before, length-append p.smaller (x ∷ [])) in (
        ap (λ (m : ℕ). take m c.entries) number ∙ ap (take (length (p.smaller ++ x ∷ []))) parts.1 ∙ take-front (p.smaller ++ x ∷ []) p.greater,
        omega (arith, number, ap length parts.1, length-append (p.smaller ++ x ∷ []) p.greater),
        same-length c.entries E c.same,
      )

-- the chain at a place has the pair of the key, and its rows up to the key's own were made one's own
pub record MeetsPair {T : Type 0} (cmp : T → T → Ordering) (old now : Heap T) (row index r i : ℕ) (E : List (Entry T)) (key : T) (x : Entry T) : Type 0 where
  pub total : IsTotalOrder cmp
  pub inside : index < length (links_at old row)
  pub chained : IsChain cmp (form_at old) (child_at old row index) E
  pub parts : Parts cmp key chained.entries
  pub pair : HasPair cmp old E key x
  pub owns : OwnsRows old now row index (parts.smaller ++ x ∷ []) r i

module _ {T : Type 0} {cmp : T → T → Ordering} {old now : Heap T} {row index r i : ℕ} {E : List (Entry T)} {key : T} {x : Entry T} (w : MeetsPair cmp old now row index r i E key x) where
  same-key : cmp x.key key ≡ Equal
  same-key = tied_back w.total key x.key (find-has cmp key E x w.pair.found)

  whole : (w.parts.equal ≡ Some x) × (w.chained.entries ≡ (w.parts.smaller ++ x ∷ []) ++ w.parts.greater)
  whole = found-parts cmp w.total (form_at old) (child_at old row index) E key x w.chained w.parts w.pair.found

  there : link_in old row index ≡ Some (child_at old row index)
  there = slice_get-get_or (links_at old row) index 0 w.inside

  last-old : IsLastRow (form_at old) (link_in old row index) w.owns.rows w.parts.smaller x (link_in now r i)
  last-old = front-last (form_at old) (link_in old row index) w.owns.rows w.parts.smaller x (link_in now r i) w.owns.was

  last-now : IsLastRow (form_at now) (link_in now row index) w.owns.own w.parts.smaller x (link_in now r i)
  last-now = front-last (form_at now) (link_in now row index) w.owns.own w.parts.smaller x (link_in now r i) w.owns.is

  -- the key's own row is the last that was made one's own
  last-push : (xs ys : List ℕ) (a b : ℕ) → xs ++ a ∷ [] ≡ ys ++ b ∷ [] → a ≡ b
  last-push [] [] a b same = cc
  last-push [] (y ∷ []) a b same = absurd (let bad = ap length same in omega (arith, bad))
  last-push [] (y ∷ z ∷ ys) a b same = absurd (let bad = ap length same in omega (arith, bad))
  last-push (x ∷ []) [] a b same = absurd (let bad = ap length same in omega (arith, bad))
  last-push (x ∷ z ∷ xs) [] a b same = absurd (let bad = ap length same in omega (arith, bad))
  last-push (x ∷ xs) (y ∷ ys) a b same = last-push xs ys a b (ap (drop 1) same)

  at-last : (last-now.last ≡ r) × (i ≡ 1)
  at-last = elim w.owns.slot as (λ _. (last-now.last ≡ r) × (i ≡ 1)) [
    | inl at ↦ absurd (let bad = ap length (sym at.0 ∙ last-now.whole) in omega (arith, bad, length-append last-now.before (last-now.last ∷ [])))
    | inr past ↦ (last-push last-now.before past.before last-now.last r (sym last-now.whole ∙ past.last), past.second)
  ]

  row-now : form_at now r ≡ Some (node chain (x.link ∷ option_to_list (link_in now r i)))
  row-now = ap (form_at now) (sym at-last.0) ∙ last-now.row

  links-now : links_at now r ≡ x.link ∷ option_to_list (link_in now r i)
  links-now = sym (links-form now r) ∙ ap links_of row-now

  -- the w.pair is its first link
  pub pair-inside : 0 < length (links_at now r)
  pair-inside = omega (arith, ap length links-now)

  pub pair-child : child_at now r 0 ≡ x.link
  pair-child = ap (λ ks. get_or ks 0 0) links-now

  -- what a path has of the chain
  chain-path : (h : Heap T) (a : Option ℕ) (rest : Option ℕ) (cs : List ℕ) (y : ℕ) (most : ℕ) → length E ≤ most → IsFront (form_at h) a cs (w.parts.smaller ++ entry x.key y ∷ []) rest → IsEntry (form_at h) (entry x.key y)
      → chain_rows cmp (form_at h) key (row_and_entry cmp (form_at h) key) most a ≡ cs ++ y ∷ []
  chain-path h a rest cs y most short front keyed =
      let F = form_at h in
      let own = row_and_entry cmp F key in
      let last = front-last F a cs w.parts.smaller (entry x.key y) rest front in
      let fuel : most ≡ length w.parts.smaller + suc (most - suc (length w.parts.smaller)) = omega (arith, short, same-length w.chained.entries E w.chained.same, ap length whole.1, length-append (w.parts.smaller ++ x ∷ []) w.parts.greater, length-append w.parts.smaller (x ∷ [])) in
      front-path F cmp key own most (suc (most - suc (length w.parts.smaller))) a last.before w.parts.smaller (Some last.last) fuel w.parts.are_smaller last.front
      ∙ ap (λ ks. last.before ++ ks) (chain-row cmp F key own (most - suc (length w.parts.smaller)) last.last
      ∙ ap (λ q. match_ordering q (last.last ∷ chain_rows cmp F key own (most - suc (length w.parts.smaller)) (next_in (F last.last))) (own last.last) []) (order-row cmp F key last.last (entry x.key y) rest last.row keyed ∙ same-key)
      ∙ ap (λ f. last.last ∷ option_to_list (entry_in f)) last.row)
      ∙ sym (append_assoc last.before (last.last ∷ []) (y ∷ []))
      ∙ ap (λ ks. ks ++ y ∷ []) (sym last.whole)

  -- the w.pair was no row of the chain
  pub pair-now : key_at (form_at old) row ≡ None → row_at now x.link ≡ row_at old x.link
  pair-now keyless =
      let off : count x.link w.owns.rows ≡ 0 = front-keyless (form_at old) (link_in old row index) w.owns.rows (w.parts.smaller ++ x ∷ []) (link_in now r i) w.owns.was x.link x.key w.pair.keyed in
      let other : x.link ≢ row = λ same. let bad : None ≡ Some x.key = sym keyless ∙ sym (ap (key_at (form_at old)) same) ∙ w.pair.keyed in cc in
      (w.owns.others [] (λ some. absurd (omega (arith, some))) x.link (key-live old x.link x.key w.pair.keyed) other
      (count-take x.link (w.owns.rows ++ []) (alone old (w.owns.rows ++ [])) (omega (arith, off, count-append x.link w.owns.rows [])))).0

  graph_now : IsGraph now
  graph_now = w.owns.child.changes.trades.graph

  module _ (keyless : key_at (form_at old) row ≡ None) {new : Heap T} {k : ℕ} (own : OwnsChild now new r 0 k) where
    others-own : (s : ℕ) → s ≢ r → IsSome (row_at now s) → row_at new s ≡ row_at now s
    others-own s other live = own.stays s other live

    row-new : form_at new r ≡ Some (node chain (k ∷ option_to_list (link_in now r i)))
    row-new = row-form (row_at new r) (row_at now r) chain (x.link ∷ option_to_list (link_in now r i)) (k ∷ option_to_list (link_in now r i)) own.head (own.links ∙ ap (λ ks. set ks 0 k) links-now) row-now

    key-new : IsEntry (form_at new) (entry x.key k)
    key-new = key-moved (form_at now) (form_at new) x.link k x.key (ap (option_map form_of) (own.row ∙ ap (row_at now) pair-child)) (cells-kept now new r w.owns.keyless others-own) last-now.keyed

    past : IsPast now row index w.owns.own r i
    past = elim w.owns.slot as (λ _. IsPast now row index w.owns.own r i) [
      | inl at ↦ absurd (let bad = ap length (sym at.0 ∙ last-now.whole) in omega (arith, bad, length-append last-now.before (last-now.last ∷ [])))
      | inr is ↦ is
    ]

    -- the row above the chain stays
    row-stays : row_at new row ≡ row_at now row
    row-stays = past-row new w.inside w.owns others-own past

    front-new : IsFront (form_at new) (link_in new row index) w.owns.own (w.parts.smaller ++ entry x.key k ∷ []) (link_in now r i)
    front-new =
        let kept = front-stays (form_at now) (form_at new) (keys-stay now new r w.owns.keyless others-own) (link_in now row index) last-now.before w.parts.smaller (Some last-now.last) (before-same new w.inside w.owns others-own last-now.before (last-now.whole ∙ ap (λ b. last-now.before ++ b ∷ []) at-last.0)) last-now.front in
        let pushed = front-push (form_at new) (link_in now row index) last-now.before w.parts.smaller last-now.last (entry x.key k) (link_in now r i) kept (ap (form_at new) at-last.0 ∙ row-new) key-new in
        subst (λ a. IsFront (form_at new) a w.owns.own (w.parts.smaller ++ entry x.key k ∷ []) (link_in now r i)) (sym (ap (λ q. slice_get (links_of q) index) row-stays))
        (subst (λ ks. IsFront (form_at new) (link_in now row index) ks (w.parts.smaller ++ entry x.key k ∷ []) (link_in now r i)) (sym last-now.whole) pushed)

    -- the rows after the key's own
    rest-old : AreChainRows (form_at old) (link_in now r i) w.parts.greater
    rest-old = front-rest (form_at old) (link_in old row index) w.owns.rows (w.parts.smaller ++ x ∷ []) (link_in now r i) w.parts.greater w.owns.was (subst (λ a. AreChainRows (form_at old) a ((w.parts.smaller ++ x ∷ []) ++ w.parts.greater)) (sym there) (subst (AreChainRows (form_at old) (Some (child_at old row index))) whole.1 w.chained.rows))

    rest-below : (m : ℕ) → link_in now r i ≡ Some m → SameBelow (links_in (form_at old)) (form_at old) (form_at new) m
    rest-below m at =
        let second : links_at now r ≡ x.link ∷ m ∷ [] = links-now ∙ ap (λ a. x.link ∷ option_to_list a) at in
        let child : child_at now r 1 ≡ m = ap (λ ks. get_or ks 1 0) second in
        let kept = (own-child now new r 0 k graph_now own).beside 1 (omega (arith, ap length second)) (λ bad. absurd (omega (arith, bad))) in
        forms-below old new m (KeepsBelow-trans old now new m (w.owns.left m at) (subst (KeepsBelow now new) child kept))

    rest-new : AreChainRows (form_at new) (link_in now r i) w.parts.greater
    rest-new = rows-below-stay (form_at old) (form_at new) (link_in now r i) w.parts.greater rest-below rest-old

    there-new : link_in new row index ≡ Some (child_at new row index)
    there-new = slice_get-get_or (links_at new row) index 0 (omega (arith, inside-now new w.inside w.owns others-own, ap (λ q. length (links_of q)) row-stays))

    chain-new : IsChain cmp (form_at new) (child_at new row index) (put cmp E (entry x.key k))
    chain-new =
        let all = front-rows (form_at new) (link_in new row index) w.owns.own (w.parts.smaller ++ entry x.key k ∷ []) (link_in now r i) w.parts.greater front-new rest-new in
        put-same cmp w.total (form_at old) (child_at old row index) E key x w.chained w.pair.found w.parts (form_at new) (child_at new row index) k
        (subst (λ a. AreChainRows (form_at new) a (w.parts.smaller ++ entry x.key k ∷ w.parts.greater)) there-new (subst (AreChainRows (form_at new) (link_in new row index)) (append_assoc w.parts.smaller (entry x.key k ∷ []) w.parts.greater) all))

    few : length (w.parts.smaller ++ x ∷ []) ≤ length E
    few = omega (arith, same-length w.chained.entries E w.chained.same, ap length whole.1, length-append (w.parts.smaller ++ x ∷ []) w.parts.greater)

    child-new : EditsChild row index old new [] [] 0 (length E + 1)
    child-new = child-more 0 (length E + 1) (child-then old now new row index (child_at now row index) [] [] 0 (length (w.parts.smaller ++ x ∷ [])) 0 1 graph_now w.inside w.owns.child refl past.sole (Changes-path past.below own.changes) (λ u up. refl)) (omega arith) (omega (arith, few))

    old-path : (most : ℕ) → length E ≤ most → chain_rows cmp (form_at old) key (row_and_entry cmp (form_at old) key) most (Some (child_at old row index)) ≡ w.owns.rows ++ child_at now r 0 ∷ []
    old-path most short =
        ap (chain_rows cmp (form_at old) key (row_and_entry cmp (form_at old) key) most) (sym there)
        ∙ chain-path old (link_in old row index) (link_in now r i) w.owns.rows x.link most short w.owns.was w.pair.keyed ∙ ap (λ y. w.owns.rows ++ y ∷ []) (sym pair-child)

    new-path : (more : ℕ) → length E ≤ more → chain_rows cmp (form_at new) key (row_and_entry cmp (form_at new) key) more (Some (child_at new row index)) ≡ w.owns.own ++ k ∷ []
    new-path more short =
        ap (chain_rows cmp (form_at new) key (row_and_entry cmp (form_at new) key) more) (sym there-new)
        ∙ chain-path new (link_in new row index) (link_in now r i) w.owns.own k more short front-new key-new

    pair-linked : HasLink (links_at now) r (child_at now r 0)
    pair-linked = child-linked now r 0 own.inside

    pub owns-in-chain : OwnsInChain cmp old new row index E key x k
    owns-in-chain = record {
      child = child-new;
      chain = chain-new;
      same = own.row ∙ ap (row_at now) pair-child ∙ pair-now keyless;
      down = path_then r k (KeepsPaths-owned own.changes.paths row r (here r) w.owns.down) (own-linked now new r 0 k own) own.sole;
      gains = Gains-trans w.owns.gains (gains-child now new r 0 k own);
      path = λ most more short short'.
          let tail = KeepsAlone-own now new (child_at now r 0) k [] own.same own.sole own.owners graph_now (λ none. absurd (omega (arith, none))) (k ∷ []) (KeepsAlone-cons new k [] [] own.sole (KeepsAlone-none new)) in
          rw (old-path most short, new-path more short') (w.owns.path (child_at now r 0 ∷ []) (k ∷ []) (λ some. pair-linked) tail);
      came = λ most short.
          let before = w.owns.came (child_at now r 0 ∷ []) (λ some. pair-linked) in
          let copied = alone-own now new (child_at now r 0) k [] own.same own.sole own.owners graph_now (λ none. absurd (omega (arith, none))) in
          let all : MakesCopies old new (w.owns.rows ++ child_at now r 0 ∷ []) = omega (arith, before, copied, alone-yes new k [] own.sole, own.makes.live, length-append w.owns.rows (child_at now r 0 ∷ [])) in
          subst (MakesCopies old new) (sym (old-path most short)) all;
      writes = λ most short m live other off.
          let before = w.owns.others (child_at now r 0 ∷ []) (λ some. pair-linked) m live other (subst (λ ks. count m (written old ks) ≡ 0) (old-path most short) off) in
          own.stays m before.1 (subst IsSome (sym before.0) live) ∙ before.0;
      apart = λ most short m live other off.
          let before = w.owns.others (child_at now r 0 ∷ []) (λ some. pair-linked) m live other (subst (λ ks. count m (written old ks) ≡ 0) (old-path most short) off) in
          apart-owned now new r 0 k own m [] (subst IsSome (sym before.0) live) before.2;
    }
