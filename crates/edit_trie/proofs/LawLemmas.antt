-- The laws of edits of maps in place: what keeps the rows that aren't written keeps what is held beside, and the values; and what a change at a key's own pair makes of the map.
use Rattle.std.proofs.Common.{◌≡◌, ◌≢◌, ℕ, zero, suc, ◌<◌, List, [], ◌∷◌, ◌++◌, length, refl, ap, sym, subst, ◌∙◌, arith, Bool, false, Option, Some, None, ◌⊎◌, ◌≤◌, option_map, inl, inr}
use Rattle.std.specs.Prelude.{◌==◌, option_to_list, remove, IsSome, count_by, unwrap_or, if◌then◌else◌}
use Rattle.std.specs.List.{All, AllZip, find}
use Rattle.std.specs.declared.cmp.Ordering.{Ordering}
use Rattle.std.specs.declared.cmp.Ordering.TheVariants.{Equal}
use Rattle.std.specs.Cmp.{IsTotalOrder}
use Rattle.std.proofs.lemmas.Bool.Decides.{nat_tests}
use Rattle.std.proofs.lemmas.List.Elements.{All-nil, All-cons, All-head, All-tail, All-weaker}
use Rattle.std.proofs.lemmas.Bool.{cases_eq}
use Rattle.elem_core.specs.Codes.{digit_at}
use Rattle.elem_core.specs.declared.codes.TheConstants.{DEEPEST, LEVELS}
use Rattle.node_heap.specs.Links.{count, HasLink, Reaches, here, below}
use Rattle.node_heap.specs.Forms.{node, chain, links_of, links_in, Forms, pair, head_of, form_of}
use Rattle.node_heap.specs.Heap.{Heap, row_at, form_at, links_at, holds_at, live_count, IsGraph, owners_at}
use Rattle.node_heap.specs.Calls.{KeepsBelow, HasHolds}
use Rattle.node_heap.specs.InPlace.{child_at, OwnsDown, path_start, path_then, Changes, ReachesAround, at_once}
use Rattle.node_heap.specs.declared.owner.Owner.{Owner}
use Rattle.node_heap.specs.declared.owner.Owner.TheVariants.{Hold as by_hold, Child as by_place}
use Rattle.node_heap.specs.Owner.{owned, held_by, holds_beside, links_beside, relinked, WritesOnly, WritesOnlyLeft}
use Rattle.node_heap.proofs.CallerLemmas.{Reaches-by, test_same, one_at-flip, count-link as count-cons, IsDown, others-beside, others-below, left-below, left-held, Reaches-trans, IsOwners-heap, around-path, Reaches-last, Reaches-around, Reaches-avoids, ReachesAround-then, ReachesAround-trans, ReachesAround-same, IsGraph-acyclic, sole-before}
use Rattle.champ_chain.specs.Entry.{Entry, key_at, key_of, entry, IsEntry, has_key, others}
use Rattle.champ_chain.specs.Chain.{AreChainRows}
use Rattle.champ_chain.proofs.CallerLemmas.{links-form, same-sym, same-find}
use Rattle.champ_trie.specs.Trie.{IsTrie, IsPlace, part, place_of, code_by, IsCanon}
use Rattle.champ_trie.specs.declared.place.Place.{Place}
use Rattle.champ_trie.specs.declared.place.Place.TheVariants.{Entry as At, Node, Empty}
use Rattle.champ_trie.proofs.CallerLemmas.{at-link, node-link, has-first, has-next, canon-reach, all-same, all-parts, canon-around, has-one-set, takes-any-order, names-keys}
use Rattle.champ_trie.specs.Laws.{SameAround}
use Rattle.champ_kinds.specs.Root.{Root}
use Rattle.champ_kinds.specs.Binding.{Binding, binding, binds, bind, kept_key}
use Rattle.champ_kinds.specs.Kinds.{IsPair, IsMapOf}
use Rattle.champ_kinds.proofs.CallerLemmas.{zip-as, zip-all}
use Rattle.edit_trie.specs.Path.{pair_path}
use Rattle.edit_trie.specs.Edit.{by_bits, IsPairOfKey}
use Rattle.node_heap.specs.Root.{CanOwn, IsApart}
use Rattle.edit_trie.specs.Laws.{EditsKeepValues, CutsKeepValues, CutsKeepHeld, PairChangesBind, PairChangesKeepValues}
use Rattle.edit_trie.proofs.PathLemmas.{Paths, path_of, edit-paths, pair-paths, rows_below, rows-first, IsKeyless, down-below}
use Rattle.edit_trie.proofs.MapLemmas.{pair-key, all-found, found-link, zip-found, one-out, pair-by, pairs-left, all-others}
use Rattle.edit_trie.proofs.RowLemmas.{row-form}
use Rattle.edit_trie.proofs.StepLemmas.{find-has}

module _ {T : Type 0} (h : Heap T) where
  -- a path of a map's root, from the root down
  module _ {cmp : T → T → Ordering} {code : T → ℕ} {bits root : ℕ} {M : List (Binding T)} (is : IsMapOf cmp code h (by_bits bits root) M) (p : Paths cmp (code_by code bits)) (c : ℕ) where
    abbrev tail : List ℕ
    tail = rows_below (p.entry (form_at h)) (p.chain (form_at h) (live_count h)) (form_at h) DEEPEST 0 c root

    tail-is : path_of p (form_at h) (live_count h) LEVELS 0 c root ≡ root ∷ tail
    tail-is = rows-first (p.entry (form_at h)) (p.chain (form_at h) (live_count h)) (form_at h) DEEPEST 0 c root

    tail-down : IsDown (IsKeyless h) h root tail
    tail-down = down-below h cmp (code_by code bits) (p.entry (form_at h)) (p.chain (form_at h) (live_count h)) (p.goes h (live_count h)) DEEPEST 0 c root is.entries is.rooted.trie.trie

  -- a link of a row with a key that the root reaches
  pub record InPair (root x : ℕ) : Type 0 where
    pub row : ℕ
    pub under : Reaches (links_at h) root row
    pub linked : HasLink (links_at h) row x
    pub keyed : IsKeyless h row → ⊥

  -- a pair's second link is its value
  pub value-linked : (e : Entry T) (b : Binding T) → IsPair (form_at h) e b → HasLink (links_at h) e.link b.value
  value-linked e b is =
      let links : count b.value (links_at h e.link) ≡ count b.value (is.key_cell ∷ b.value ∷ []) = ap (count b.value) (sym (links-form h e.link) ∙ ap links_of is.row) in
      omega (arith, links, count-cons b.value is.key_cell (b.value ∷ []), count-cons b.value b.value [], test_same b.value b.value refl)

  -- a value is one
  values-in : (root : ℕ) (E : List (Entry T)) (M : List (Binding T)) → All (λ e. Reaches (links_at h) root e.link) E → AllZip (IsPair (form_at h)) E M → All (λ b. InPair root b.value) M
  values-in root [] [] under pairs = All-nil (λ b. InPair root b.value)
  values-in root [] (b ∷ bs) under pairs = absurd pairs
  values-in root (e ∷ es) [] under pairs = absurd pairs
  values-in root (e ∷ es) (b ∷ bs) under pairs =
      let Under = λ (d : Entry T). Reaches (links_at h) root d.link in
      let first : InPair root b.value = record {
        row = e.link;
        under = All-head Under e es under;
        linked = value-linked e b pairs.0;
        keyed = λ none. let bad : None ≡ Some e.key = sym none ∙ pair-key (form_at h) e b pairs.0 in cc;
      } in
      All-cons (λ c. InPair root c.value) b bs first (values-in root es bs (All-tail Under e es under) pairs.1)

  values-below : (cmp : T → T → Ordering) (code : T → ℕ) (r : Root) (M : List (Binding T)) → IsMapOf cmp code h r M → All (λ b. InPair r.root b.value) M
  values-below cmp code r M is = values-in r.root is.entries M reached is.pairs
    where
      reached : All (λ e. Reaches (links_at h) r.root e.link) is.entries
      reached =
          All-weaker (λ e. Reaches (links_in (form_at h)) r.root e.link) (λ e. Reaches (links_at h) r.root e.link)
          (λ e under. Reaches-by (links_in (form_at h)) (links_at h) (λ l. sym (links-form h l)) r.root e.link under) is.entries (canon-reach cmp (code_by code r.bits) (form_at h) r.root is.entries is.rooted.trie)

module _ {T : Type 0} (cmp : T → T → Ordering) (code : T → ℕ) where
  pub edits-keep-values : EditsKeepValues cmp code
  edits-keep-values = λ owner old new root bits M key graph is map others.
      let l : ℕ = owned old owner in
      let p = pair-paths cmp (code_by code bits) key in
      let rest : List ℕ = tail old map p (code_by code bits key) in
      let down = tail-down old map p (code_by code bits key) in
      let all : WritesOnly owner old new root (l ∷ rest) = subst (WritesOnly owner old new root) (tail-is old map p (code_by code bits key)) others in
      record {
        beside = others-beside (IsKeyless old) owner old new root rest graph is down all;
        below =
            All-weaker (λ b. InPair old l b.value) (λ b. KeepsBelow old new b.value) (λ b q. others-below (IsKeyless old) owner old new root rest graph is down all q.row b.value q.under q.linked q.keyed)
            M (values-below old cmp code _ M map);
      }

  pub cuts-keep-values : CutsKeepValues cmp code
  cuts-keep-values = λ owner old new root bits M key graph graph' is map others.
      let l : ℕ = owned old owner in
      let p = edit-paths cmp (code_by code bits) key in
      let rest : List ℕ = tail old map p (code_by code bits key) in
      let down = tail-down old map p (code_by code bits key) in
      let all : WritesOnlyLeft owner old new root (l ∷ rest) = subst (WritesOnlyLeft owner old new root) (tail-is old map p (code_by code bits key)) others in
      All-weaker (λ b. InPair old l b.value) (λ b. IsSome (row_at new b.value) → KeepsBelow old new b.value)
      (λ b q there. left-below (IsKeyless old) owner old new root rest graph is down graph' all q.row b.value q.under q.linked q.keyed there)
      M (values-below old cmp code _ M map)

  pub cuts-keep-held : CutsKeepHeld cmp code
  cuts-keep-held = λ old new root root' bits M key graph graph' is map others.
      let p = edit-paths cmp (code_by code bits) key in
      let rest : List ℕ = tail old map p (code_by code bits key) in
      let all : WritesOnlyLeft (by_hold root) old new root' (root ∷ rest) = subst (WritesOnlyLeft (by_hold root) old new root') (tail-is old map p (code_by code bits key)) others in
      left-held (IsKeyless old) old new root root' rest graph graph' is (tail-down old map p (code_by code bits key)) all

  -- so what is handed in stays: it is held beside the root
  handed-stays : (old new : Heap T) (root root' bits : ℕ) (M : List (Binding T)) (key : T) (l : ℕ) → IsGraph old → HasHolds old (root ∷ l ∷ []) → IsMapOf cmp code old (by_bits bits root) M
      → WritesOnly (by_hold root) old new root' (pair_path cmp code old bits key root) → KeepsBelow old new l
  handed-stays old new root root' bits M key l graph held map others m way =
      let first : 0 < holds_at old root = omega (arith, held root, count-cons root root (l ∷ []), test_same root root refl) in
      let beside : 0 < holds_beside old (by_hold root) l = omega (arith, held l, count-cons l root (l ∷ []), count-cons l l [], test_same l l refl, one_at-flip root l) in
      (edits-keep-values (by_hold root) old new root' bits M key graph first map others).beside l m beside way

  -- or held, where it doesn't reach the parent
  handed-apart : (old new : Heap T) (parent index root' bits : ℕ) (M : List (Binding T)) (key : T) (l : ℕ) → IsGraph old → index < length (links_at old parent) → 0 < holds_at old l → ¬ Reaches (links_at old) l parent
      → IsMapOf cmp code old (by_bits bits (child_at old parent index)) M → WritesOnly (by_place parent index) old new root' (pair_path cmp code old bits key (child_at old parent index)) → KeepsBelow old new l
  handed-apart old new parent index root' bits M key l graph inside held off map others m down =
      (edits-keep-values (by_place parent index) old new root' bits M key graph inside map others).beside l m held (way l m down off)
      ∙ ap (λ (b : Bool). if b then relinked index root' (row_at old m) else row_at old m) (test m (λ same. off (subst (Reaches (links_at old) l) same down)))
    where
      test : (x : ℕ) → x ≢ parent → (x == parent) ≡ false
      test x other = grind (arith, nat_tests, other)

      way : (x y : ℕ) → Reaches (links_at old) x y → ¬ Reaches (links_at old) x parent → Reaches (links_beside old (by_place parent index)) x y
      way x y (here k) off = here k
      way x y (below k j z has rest) off =
          let other : k ≢ parent = λ same. off (subst (Reaches (links_at old) k) same (here k)) in
          below k j z (subst (λ (b : Bool). 0 < count j (if b then remove (links_at old k) index else links_at old k)) (sym (test k other)) has) (way j z rest (λ up. off (below k j parent has up)))

  -- by any owner
  pub handed-by : (owner : Owner) (old new : Heap T) (root' bits : ℕ) (M : List (Binding T)) (key : T) (l : ℕ) → IsGraph old → CanOwn old owner → HasHolds old (held_by owner (owned old owner) ++ l ∷ []) → IsApart old owner l
      → IsMapOf cmp code old (by_bits bits (owned old owner)) M → WritesOnly owner old new root' (pair_path cmp code old bits key (owned old owner)) → KeepsBelow old new l
  handed-by (by_hold root) old new root' bits M key l graph can held apart map others = handed-stays old new root root' bits M key l graph held map others
  handed-by (by_place parent child) old new root' bits M key l graph can held apart map others =
      let was : HasHolds old (l ∷ []) = held in
      handed-apart old new parent child root' bits M key l graph can.0 (omega (arith, was l, count-cons l l [], test_same l l refl)) apart map others

all-both : {X : Type 0} (P Q : X → Type 0) (xs : List X) → All P xs → All Q xs → All (λ x. P x × Q x) xs
all-both P Q xs one two = λ i d inside. (one i d inside, two i d inside)

-- what holds by the second list alone holds of all of that
zip-right : {X Y : Type 0} (P : Y → Type 0) (xs : List X) (ys : List Y) → AllZip (λ x y. P y) xs ys → All P ys
zip-right P [] [] zip = All-nil P
zip-right P [] (y ∷ ys) zip = absurd zip
zip-right P (x ∷ xs) [] zip = absurd zip
zip-right P (x ∷ xs) (y ∷ ys) zip = All-cons P y ys zip.0 (zip-right P xs ys zip.1)

-- what goes down from each row of a trie holds of its entries
module _ {K : Type 0} (F : Forms K) (P : ℕ → Type 0) (next : (l m : ℕ) → P l → key_at F l ≡ None → HasLink (links_in F) l m → P m) where
  rows-down : (es : List (Entry K)) (o : Option ℕ) → ((m : ℕ) → o ≡ Some m → P m) → AreChainRows F o es → All (λ e. P e.link) es
  unfolding AreChainRows
  rows-down [] o down rows = All-nil (λ e. P e.link)
  rows-down (e ∷ es) o down rows =
      let keyless : key_at F rows.link ≡ None = ap (key_of F) rows.row in
      let at : P rows.link = down rows.link rows.here in
      All-cons (λ e. P e.link) e es (next rows.link e.link at keyless (has-first F rows.link e.link chain (option_to_list rows.next) rows.row))
      (rows-down es rows.next (λ m is. next rows.link m at keyless (has-next F rows.link e.link m chain (rows.row ∙ ap (λ n. Some (node chain (e.link ∷ option_to_list n))) is))) rows.rest)

  module _ (cmp : K → K → Ordering) (code : K → ℕ) where
    pub trie-down : (left d l : ℕ) (E : List (Entry K)) → P l → IsTrie cmp code F left d l E → All (λ e. P e.link) E
    unfolding IsTrie
    trie-down zero d l E at is = all-same (λ e. P e.link) is.entries E is.same (rows-down is.entries (Some l) (λ m same. subst P (let e : Some l ≡ Some m = same in cc) at) is.rows)
    trie-down (suc left) d l E at is =
        all-parts (λ e. P e.link) (λ e. digit_at (code e.key) d) (λ e. omega arith) E
        (λ p small. by_place p small (λ k under. trie-down left (suc d) k (part cmp code d p E) under) (place_of is.entries is.nodes is.links p) refl (is.places p small))
      where
        keyless : key_at F l ≡ None
        keyless = ap (key_of F) is.row.row

        by_place : (p : ℕ) → p < 32 → ((k : ℕ) → P k → IsTrie cmp code F left (suc d) k (part cmp code d p E) → All (λ e. P e.link) (part cmp code d p E))
            → (place : Place) → place_of is.entries is.nodes is.links p ≡ place → IsPlace F (λ k Q. IsTrie cmp code F left (suc d) k Q) place (part cmp code d p E) → All (λ e. P e.link) (part cmp code d p E)
        by_place p small deeper Empty is_at none = subst (All (λ e. P e.link)) (sym none) (All-nil (λ e. P e.link))
        by_place p small deeper (At x) is_at one =
            subst (All (λ e. P e.link)) (sym one.1) (All-cons (λ e. P e.link) (entry one.0 x) [] (next l x at keyless (at-link F l d is.entries is.nodes p x is.links is.row small is_at)) (All-nil (λ e. P e.link)))
        by_place p small deeper (Node k) is_at more = deeper k (next l k at keyless (node-link F l d is.entries is.nodes p k is.links is.row small is_at)) more.1

    pub trie-keyless : (left d l : ℕ) (E : List (Entry K)) → IsTrie cmp code F (suc left) d l E → key_at F l ≡ None
    unfolding IsTrie
    trie-keyless left d l E is = ap (key_of F) is.row.row

module _ {T : Type 0} (cmp : T → T → Ordering) (code : T → ℕ) (o : IsTotalOrder cmp) (old new : Heap T) (r : Root) (M : List (Binding T)) (key : T) (link : ℕ) (graph : IsGraph old) (map : IsMapOf cmp code old r M) (p : IsPairOfKey cmp code old r key link) where
  abbrev F : Forms T
  F = form_at old

  abbrev G : Forms T
  G = form_at new

  once : count_by (has_key cmp key) map.entries ≤ 1
  once = map.rooted.trie.distinct.once key

  -- the pair of the key among the map's entries
  found : (e : Entry T) × (find (has_key cmp key) map.entries ≡ Some e) × (e.link ≡ link)
  found =
      let same = has-one-set cmp (code_by code r.bits) o F r.root map.entries p.entries map.rooted.trie p.rooted.trie in
      found-link cmp key map.entries link (ap (option_map (λ (e : Entry T). e.link)) (same-find (has_key cmp key) map.entries p.entries same once) ∙ p.there)

  bound : (b : Binding T) × (find (binds cmp key) M ≡ Some b) × IsPair F found.0 b
  bound = zip-found cmp F key map.entries M found.0 map.pairs found.1

  had_key : key_at F link ≡ Some found.0.key
  had_key = ap (key_at F) (sym found.2) ∙ pair-key F found.0 bound.0 bound.2

  pair-row : F link ≡ Some (node pair (bound.2.key_cell ∷ bound.0.value ∷ []))
  pair-row = ap F (sym found.2) ∙ bound.2.row

  root-keyless : key_at F r.root ≡ None
  root-keyless = trie-keyless F (λ _. Unit {0}) (λ l m at keyless has. tt) cmp (code_by code r.bits) DEEPEST 0 r.root map.entries map.rooted.trie.trie

  not-link : (m : ℕ) → key_at F m ≡ None → m ≢ link
  not-link m keyless same = let bad : None ≡ Some found.0.key = sym keyless ∙ ap (key_at F) same ∙ had_key in cc

  -- an entry lies below the root
  abbrev Under : Entry T → Type 0
  Under e = Reaches (links_at old) r.root e.link

  all-under : All Under map.entries
  all-under =
      All-weaker (λ e. Reaches (links_in F) r.root e.link) Under (λ e way. Reaches-by (links_in F) (links_at old) (λ l. sym (links-form old l)) r.root e.link way)
      map.entries (canon-reach cmp (code_by code r.bits) F r.root map.entries map.rooted.trie)

  -- and doesn't lead back to it
  off-root : ¬ Reaches (links_at old) link r.root
  off-root up =
      let under : Reaches (links_at old) r.root link = subst (Reaches (links_at old) r.root) found.2 (all-found Under (has_key cmp key) map.entries found.0 all-under found.1) in
      elim (Reaches-last (links_at old) r.root link under) as (λ _. ⊥) [
        | inl same ↦ not-link r.root root-keyless same
        | inr last ↦ let acyclic = IsGraph-acyclic old graph in acyclic last.0 link last.2 (Reaches-trans (links_at old) link r.root last.0 up last.1)
      ]

  -- beside an entry there are others, which the root reaches around it
  abbrev IsAround : ℕ → ℕ → Type 0
  IsAround x m = (m ≡ x) ⊎ ReachesAround (links_at old) x r.root m

  all-around : (x : ℕ) (k : T) → key_at F x ≡ Some k → All (λ e. IsAround x e.link) map.entries
  all-around x k keyed = trie-down F (IsAround x) next cmp (code_by code r.bits) LEVELS 0 r.root map.entries (inr (at_once r.root (off r.root root-keyless))) map.rooted.trie.trie
    where
      off : (m : ℕ) → key_at F m ≡ None → m ≢ x
      off m keyless same = let bad : None ≡ Some k = sym keyless ∙ ap (key_at F) same ∙ keyed in cc

      next : (l m : ℕ) → IsAround x l → key_at F l ≡ None → HasLink (links_in F) l m → IsAround x m
      next l m (inl at) keyless has = absurd (off l keyless at)
      next l m (inr way) keyless has = elim (cases_eq m x) as (λ _. IsAround x m) [
        | inl at ↦ inl at
        | inr other ↦ inr (ReachesAround-then (links_at old) x r.root l m way (subst (λ ks. 0 < count m ks) (links-form old l) has) other)
      ]

  -- the pair of another key is another row
  apart-link : (k : T) (x : ℕ) → (cmp key k ≡ Equal → ⊥) → key_at F x ≡ Some k → x ≢ link
  apart-link k x apart named at =
      let same : k ≡ found.0.key = (let both : Some k ≡ Some found.0.key = sym named ∙ ap (key_at F) at ∙ had_key in cc) in
      apart (ap (cmp key) same ∙ find-has cmp key map.entries found.0 found.1)

  -- where only the way from the root leads to the pair, no other pair's value does
  module _ (l : ℕ) (held : 0 < holds_at old l) (way : Reaches (links_at old) l r.root) (sole : OwnsDown old r.root link) (e : Entry T) (b : Binding T) (under : Under e) (is : IsPair F e b) (other : e.link ≢ link) where
    -- no path of rows with one owner each leads from the other pair to this one, for the root reaches this one around that
    no-path : ¬ OwnsDown old e.link link
    no-path path =
        let acyclic = IsGraph-acyclic old graph in
        let off : ¬ Reaches (links_at old) e.link r.root = λ up. elim (Reaches-last (links_at old) r.root e.link under) as (λ _. ⊥) [
          | inl same ↦ let bad : None ≡ Some e.key = sym root-keyless ∙ ap (key_at F) same ∙ pair-key F e b is in cc
          | inr last ↦ acyclic last.0 e.link last.2 (Reaches-trans (links_at old) e.link r.root last.0 up last.1)
        ] in
        elim (all-found (λ d. IsAround e.link d.link) (has_key cmp key) map.entries found.0 (all-around e.link e.key (pair-key F e b is)) found.1) as (λ _. ⊥) [
          | inl at ↦ other (sym at ∙ found.2)
          | inr round ↦
              let from_l = ReachesAround-trans (links_at old) e.link l r.root found.0.link (Reaches-avoids (links_at old) e.link l r.root way off) round in
              around-path (holds_at old) (owners_at old) (links_at old) (IsOwners-heap old) e.link link l path held (subst (ReachesAround (links_at old) e.link l) found.2 from_l)
        ]

    off-path : (x : ℕ) → OwnsDown old r.root x → OwnsDown old x link → ¬ Reaches (links_at old) b.value x
    off-path x path_start rest up = let acyclic = IsGraph-acyclic old graph in acyclic e.link b.value (value-linked old e b is) (Reaches-trans (links_at old) b.value r.root e.link up under)
    off-path x (path_then p k path has one) rest up =
        let more : OwnsDown old p link = sole-before (owners_at old) (links_at old) p k link has one rest in
        elim (Reaches-last (links_at old) b.value k up) as (λ _. ⊥) [
          | inl same ↦ no-path (subst (λ q. OwnsDown old q link) ((IsOwners-heap old).only e.link p k (subst (HasLink (links_at old) e.link) same (value-linked old e b is)) has one) more)
          | inr last ↦ off-path p path more (subst (Reaches (links_at old) b.value) ((IsOwners-heap old).only p last.0 k has last.2 one) last.1)
        ]

    pub off-pair : ¬ Reaches (links_at old) b.value link
    off-pair = off-path link sole path_start

  module _ {l c n : ℕ} {spent gained : List ℕ} (change : Changes link old new spent gained c n) (held : count l spent < holds_at old l) (way : Reaches (links_at old) l r.root) where
    same-row : (m : ℕ) → ReachesAround (links_at old) link r.root m → row_at new m ≡ row_at old m
    same-row m around = change.apart.kept l m held (ReachesAround-trans (links_at old) link l r.root m (Reaches-avoids (links_at old) link l r.root way off-root) around)

    abbrev ValueStays : Binding T → Type 0
    ValueStays b = (cmp key b.key ≡ Equal → ⊥) → KeepsBelow old new b.value

    -- all below the value of each other key
    pub values-kept : OwnsDown old r.root link → All ValueStays M
    values-kept sole =
        let Around = λ (e : Entry T). IsAround link e.link in
        let both = all-both Under Around map.entries all-under (all-around link found.0.key had_key) in
        zip-right ValueStays map.entries M
        (zip-as (λ e b. (Under e × Around e) × IsPair F e b) (λ e b. ValueStays b) each map.entries M (zip-all (λ e. Under e × Around e) (IsPair F) map.entries M both map.pairs))
      where
        each : (e : Entry T) (b : Binding T) → (Under e × IsAround link e.link) × IsPair F e b → ValueStays b
        each e b ((under, around), is) apart m on =
            let other : e.link ≢ link = apart-link e.key e.link (λ same. apart (ap (cmp key) is.key ∙ same)) (pair-key F e b is) in
            let off = off-pair l (omega (arith, held)) way sole e b under is other in
            let round : ReachesAround (links_at old) link r.root e.link = elim around as (λ _. ReachesAround (links_at old) link r.root e.link) [
              | inl at ↦ absurd (other at)
              | inr up ↦ up
            ] in
            let to_value = ReachesAround-then (links_at old) link r.root e.link b.value round (value-linked old e b is) (λ same. off (subst (Reaches (links_at old) b.value) same (here b.value))) in
            same-row m (ReachesAround-trans (links_at old) link r.root b.value m to_value (Reaches-around (links_at old) link b.value m on off))

    module _ (value : ℕ) (head : head_of (row_at new link) ≡ head_of (row_at old link)) (links : links_at new link ≡ child_at old link 0 ∷ value ∷ []) (keys : key_at G link ≡ key_at F link) where
      around : SameAround F G r.root link
      around = record {
        key = found.0.key;
        is_pair = ap head_of pair-row;
        had_key = had_key;
        has_key = keys ∙ had_key;
        same = λ m round. ap (option_map form_of) (same-row m (ReachesAround-same (links_in F) (links_at old) link r.root m round (λ k on. sym (links-form old k))));
      }

      -- the entries of the new map: the pair, and the others
      abbrev E : List (Entry T)
      E = found.0 ∷ others cmp key map.entries

      canon : IsCanon cmp (code_by code r.bits) G r.root E
      canon =
          takes-any-order cmp (code_by code r.bits) o G r.root map.entries E (same-sym E map.entries (one-out (has_key cmp key) map.entries found.0 once found.1))
          (canon-around F G r.root link around cmp (code_by code r.bits) map.entries map.rooted.trie)

      rows-same : All (λ d. row_at new d.link ≡ row_at old d.link) (others cmp key map.entries)
      rows-same =
          let Named = IsEntry F in
          let Around = λ (d : Entry T). IsAround link d.link in
          all-others cmp key (λ d. Named d × Around d) (λ d. row_at new d.link ≡ row_at old d.link) each map.entries
          (all-both Named Around map.entries (names-keys cmp (code_by code r.bits) F r.root map.entries map.rooted.trie) (all-around link found.0.key had_key))
        where
          each : (d : Entry T) → (cmp key d.key ≡ Equal → ⊥) → IsEntry F d × IsAround link d.link → row_at new d.link ≡ row_at old d.link
          each d apart (named, inl at) = absurd (apart-link d.key d.link apart named at)
          each d apart (named, inr way) = same-row d.link way

      pair-new : IsPair G found.0 (binding (kept_key cmp key M) value)
      pair-new =
          let row : G link ≡ Some (node pair (child_at old link 0 ∷ value ∷ [])) = row-form (row_at new link) (row_at old link) pair (bound.2.key_cell ∷ bound.0.value ∷ []) (child_at old link 0 ∷ value ∷ []) head links pair-row in
          let kept : kept_key cmp key M ≡ found.0.key = ap (λ b. unwrap_or (option_map (λ (b : Binding T). b.key) b) key) bound.1 ∙ bound.2.key in
          pair-by G found.0.link found.0.key (binding (kept_key cmp key M) value) (child_at old link 0) value (ap G found.2 ∙ row) (ap (key_at G) found.2 ∙ (keys ∙ had_key)) refl kept

      pub map-bound : IsMapOf cmp code new r (bind cmp M key value)
      map-bound = record {
        entries = E;
        rooted = record { bits = map.rooted.bits; trie = canon };
        pairs = (
          pair-new,
          pairs-left cmp old new key map.entries M map.pairs rows-same (All-tail (IsEntry G) found.0 (others cmp key map.entries) (names-keys cmp (code_by code r.bits) G r.root E canon)),
        );
      }

pub pair-changes-bind : {T : Type 0} (cmp : T → T → Ordering) (code : T → ℕ) → IsTotalOrder cmp → PairChangesBind cmp code
pair-changes-bind cmp code o = λ old new r M key link value l spent gained c n graph map p change held way head links keys. map-bound cmp code o old new r M key link graph map p change held way value head links keys

pub pair-changes-keep-values : {T : Type 0} (cmp : T → T → Ordering) (code : T → ℕ) → IsTotalOrder cmp → PairChangesKeepValues cmp code
pair-changes-keep-values cmp code o = λ old new r M key link l spent gained c n graph map p sole change held way. values-kept cmp code o old new r M key link graph map p change held way sole
