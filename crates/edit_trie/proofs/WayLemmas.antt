-- The rows over a key: how many they are, and that the trie of two entries has no others.
use Rattle.std.proofs.Common.{◌≡◌, ◌≢◌, ◌⊎◌, ℕ, zero, suc, ◌+◌, ◌-◌, ◌<◌, ◌≤◌, List, [], ◌∷◌, length, get_or, set, cond, false, refl, ap, sym, subst, ◌∙◌, arith, Option, Some, None, IsSome, inl, inr}
use Rattle.std.specs.Prelude.{count_by, option_to_list, nat_eq}
use Rattle.std.specs.Option.{is_some}
use Rattle.std.specs.List.{All}
use Rattle.std.specs.declared.cmp.Ordering.{Ordering}
use Rattle.std.proofs.lemmas.Bool.{cases_eq, cases_lt, false_from_ne_true}
use Rattle.std.proofs.lemmas.List.{get_or-set_other}
use Rattle.std.proofs.lemmas.List.Elements.{All-nil, All-cons, All-head, All-tail, All-filter}
use Rattle.std.proofs.lemmas.List.Sums.{sum_by-cons}
use Rattle.elem_core.specs.Codes.{digit_at}
use Rattle.node_heap.specs.Links.{Links, count, HasLink, Reaches, here, below}
use Rattle.node_heap.specs.Forms.{Forms, Row, node, chain, links_of, links_in}
use Rattle.node_heap.specs.Heap.{Heap, row_at, links_at, live_count, IsGraph, form_at}
use Rattle.node_heap.proofs.CallerLemmas.{count-cons, test_other, sum_by-fewer, IsDown, down-end, down-then}
use Rattle.champ_chain.specs.Entry.{Entry, entry, key_at, key_of}
use Rattle.champ_chain.specs.Chain.{AreChainRows}
use Rattle.champ_chain.proofs.CallerLemmas.{same-length, same-sym}
use Rattle.champ_trie.specs.Bits.{has, rank}
use Rattle.champ_trie.specs.Trie.{IsTrie, IsRow, AreSets, IsPlace, part, place_of}
use Rattle.champ_trie.specs.declared.place.Place.TheVariants.{Entry as At, Node}
use Rattle.champ_trie.proofs.CallerLemmas.{rank-onto, place-entry, place-node, all-same, part-here, part-elsewhere, has-next}
use Rattle.edit_trie.specs.Path.{rows_to, rows_from_place, rows_on, way_rows, place_in, next_in}
use Rattle.edit_trie.proofs.PathLemmas.{Paths, GoesDown, IsKeyless, next-linked, SaysTheSame, rows_below, rows-first, rows-last, place-in, next-row, Stays}
use Rattle.edit_trie.proofs.StepLemmas.{none-live}
use Rattle.edit_trie.proofs.ChainLemmas.{count-later, count-here}
use Rattle.edit_trie.proofs.ChainEdits.{one-of}

-- a list of which a place was emptied
empty-there : {X : Type 0} (xs : List (Option X)) (k : ℕ) → get_or (set xs k None) k None ≡ None
empty-there [] k = refl
empty-there (x ∷ xs) zero = refl
empty-there (x ∷ xs) (suc k) = empty-there xs k

one-fewer : {X : Type 0} (xs : List (Option X)) (k : ℕ) → count_by is_some xs ≤ count_by is_some (set xs k None) + 1
one-fewer [] k = omega arith
one-fewer {X} (x ∷ xs) zero =
    let f : Option X → ℕ = λ r. cond (is_some r) 1 0 in
    omega (arith, sum_by-cons f x xs, sum_by-cons f None xs, one-most x)
  where
    one-most : (r : Option X) → cond (is_some r) 1 0 ≤ 1
    one-most None = omega arith
    one-most (Some y) = omega arith
one-fewer {X} (x ∷ xs) (suc k) =
    let f : Option X → ℕ = λ r. cond (is_some r) 1 0 in
    omega (arith, sum_by-cons f x xs, sum_by-cons f x (set xs k None), one-fewer xs k)

-- no more rows came than are among these
pub few-came : {T : Type 0} (old new : Heap T) (ks : List ℕ) → ((l : ℕ) → IsSome (row_at new l) → IsSome (row_at old l) ⊎ (0 < count l ks)) → live_count new ≤ live_count old + length ks
few-came {T} old new ks each = go ks new.rows each
  where
    go : (ks : List ℕ) (rows : List (Option (Row T))) → ((l : ℕ) → IsSome (get_or rows l None) → IsSome (row_at old l) ⊎ (0 < count l ks)) → count_by is_some rows ≤ live_count old + length ks
    go [] rows each = omega (arith, sum_by-fewer (λ (r : Option (Row T)). cond (is_some r) 1 0) None refl old.rows rows (λ l. by_row l (get_or rows l None) (row_at old l) (each l)))
      where
        by_row : (l : ℕ) (r s : Option (Row T)) → (IsSome r → IsSome s ⊎ (0 < count l [])) → cond (is_some r) 1 0 ≤ cond (is_some s) 1 0
        by_row l None s some = omega arith
        by_row l (Some w) (Some v) some = omega arith
        by_row l (Some w) None some = elim (some refl) as (λ _. cond (is_some (Some w)) 1 0 ≤ 0) [
          | inl live ↦ absurd (none-live {X = Row T} None refl live)
          | inr counted ↦ absurd (omega (arith, counted))
        ]
    go (k ∷ ks) rows each =
        let empty : Option (Row T) = None in
        let rest : count_by is_some (set rows k empty) ≤ live_count old + length ks =
        go ks (set rows k empty)
        (λ l some.
        let other : l ≢ k = λ same. none-live (get_or (set rows k empty) l None) (ap (λ j. get_or (set rows k empty) j None) same ∙ empty-there rows k) some in
        let there : IsSome (get_or rows l None) = subst IsSome (get_or-set_other rows k l empty None other) some in
        elim (each l there) as (λ _. IsSome (row_at old l) ⊎ (0 < count l ks)) [
          | inl live ↦ inl live
          | inr counted ↦ inr (omega (arith, counted, count-cons l k ks, test_other k l (λ same. other (sym same))))
        ]) in
        omega (arith, rest, one-fewer rows k)

-- a row that is reached from one that was there was there
pub live-along : {T : Type 0} (old new : Heap T) → IsGraph old → ((l : ℕ) → IsSome (row_at old l) → row_at new l ≡ row_at old l) → (a b : ℕ) → IsSome (row_at old a) → Reaches (links_at new) a b → IsSome (row_at old b)
live-along old new graph kept a b live (here l) = live
live-along old new graph kept a b live (below l k m has rest) =
    live-along old new graph kept k m (graph.closed l k (subst (λ r. 0 < count k (links_of r)) (kept l live) has)) rest

-- a way ends where it begins, or goes by a link
split-way : (L : Links) (a b : ℕ) → Reaches L a b → (a ≡ b) ⊎ ((k : ℕ) × HasLink L a k × Reaches L k b)
split-way L a b (here l) = inl refl
split-way L a b (below l k m has rest) = inr (k, has, rest)

-- what is counted in a list stands at an index
index-of : (xs : List ℕ) (k : ℕ) → 0 < count k xs → (i : ℕ) × (i < length xs) × (get_or xs i 0 ≡ k)
index-of [] k some = absurd (omega (arith, some))
index-of (x ∷ xs) k some = elim (cases_eq x k) as (λ _. (i : ℕ) × (i < length (x ∷ xs)) × (get_or (x ∷ xs) i 0 ≡ k)) [
  | inl same ↦ (0, omega arith, same)
  | inr other ↦ let later = index-of xs k (omega (arith, some, count-cons k x xs, test_other x k other)) in (suc later.0, omega (arith, later.1), later.2)
]

-- each link of a row stands at a position
pub link-placed : (e n : ℕ) (ls : List ℕ) → AreSets e n ls → (k : ℕ) → 0 < count k ls → (p : ℕ) × (p < 32) × ((place_of e n ls p ≡ At k) ⊎ (place_of e n ls p ≡ Node k))
link-placed e n ls sets k some =
    let at = index-of ls k some in
    elim (cases_lt at.0 (rank e 32)) as (λ _. (p : ℕ) × (p < 32) × ((place_of e n ls p ≡ At k) ⊎ (place_of e n ls p ≡ Node k))) [
      | inl low ↦
          let p = rank-onto e 32 at.0 low in
          (p.0, p.1, inl (place-entry e n ls p.0 p.2 ∙ ap (λ i. At (get_or ls i 0)) p.3 ∙ ap At at.2))
      | inr high ↦
          let p = rank-onto n 32 (at.0 - rank e 32) (omega (arith, high, at.1, sets.count)) in
          let off : has e p.0 ≡ false = false_from_ne_true (has e p.0) (λ both. let bad = sym p.2 ∙ sets.apart p.0 p.1 both in cc) in
          let index : rank e 32 + rank n p.0 ≡ at.0 = omega (arith, p.3, high) in
          (p.0, p.1, inr (place-node e n ls p.0 off p.2 ∙ ap (λ i. Node (get_or ls i 0)) index ∙ ap Node at.2))
    ]

module _ {K : Type 0} where
  on-none : (F : Forms K) (n : ℕ) → rows_on F n None ≡ []
  unfolding rows_on
  on-none F zero = refl
  on-none F (suc n) = refl

  on-row : (F : Forms K) (n l : ℕ) → rows_on F (suc n) (Some l) ≡ l ∷ rows_on F n (next_in (F l))
  unfolding rows_on
  on-row F n l = refl

  -- a chain has as many rows as entries
  pub on-length : (F : Forms K) (n : ℕ) (o : Option ℕ) (es : List (Entry K)) → length es ≤ n → AreChainRows F o es → length (rows_on F n o) ≡ length es
  unfolding AreChainRows
  on-length F n None [] few rows = ap length (on-none F n)
  on-length F n None (e ∷ es) few rows = absurd (let bad : None ≡ Some rows.link = rows.here in cc)
  on-length F n (Some l) [] few rows = absurd cc
  on-length F zero (Some l) (e ∷ es) few rows = absurd (omega (arith, few))
  on-length F (suc n) (Some l) (e ∷ es) few rows =
      let at : rows.link ≡ l = cc in
      let row : F l ≡ Some (node chain (e.link ∷ option_to_list rows.next)) = ap F (sym at) ∙ rows.row in
      let rest : length (rows_on F n rows.next) ≡ length es = on-length F n rows.next es (omega (arith, few)) rows.rest in
      omega (arith, rest, ap length (on-row F n l), ap (λ b. length (rows_on F n b)) (next-row F l e.link rows.next row))

  -- the rows of a chain are the same where they stay
  on-stays : (F G : Forms K) {S : ℕ → Type 0} → Stays F G S → (n : ℕ) (o : Option ℕ) (es : List (Entry K)) → ((m : ℕ) → o ≡ Some m → S m) → AreChainRows F o es → rows_on G n o ≡ rows_on F n o
  unfolding rows_on AreChainRows
  on-stays F G stays zero o es same rows = refl
  on-stays F G stays (suc n) None es same rows = refl
  on-stays F G stays (suc n) (Some l) [] same rows = absurd cc
  on-stays F G stays (suc n) (Some l) (e ∷ es) same rows =
      let at : rows.link ≡ l = cc in
      let row : F l ≡ Some (node chain (e.link ∷ option_to_list rows.next)) = ap F (sym at) ∙ rows.row in
      let keyless : key_at F l ≡ None = ap (key_of F) row in
      let moved : G l ≡ F l = stays.row l (same l refl) keyless in
      let linked = λ (m : ℕ) (is : rows.next ≡ Some m). has-next F l e.link m chain (row ∙ ap (λ (p : Option ℕ). Some (node chain (e.link ∷ option_to_list p))) is) in
      let rest : rows_on G n rows.next ≡ rows_on F n rows.next = on-stays F G stays n rows.next es (λ m is. stays.next l m (same l refl) keyless (linked m is)) rows.rest in
      ap (λ ks. l ∷ ks) (ap (rows_on G n) (next-row G l e.link rows.next (moved ∙ row)) ∙ rest ∙ sym (ap (rows_on F n) (next-row F l e.link rows.next row)))

  pub way-says : (cmp : K → K → Ordering) (code : K → ℕ) (F G : Forms K) {S : ℕ → Type 0} → Stays F G S → (most : ℕ) → SaysTheSame cmp code F G S (λ _. []) (λ k. rows_on F most (Some k)) (λ _. []) (λ k. rows_on G most (Some k))
  way-says cmp code F G {S = S} stays most = record {
    entry = λ x k same keyed. refl;
    chain = λ k P same is. on-stays F G stays most (Some k) is.entries (λ m e. let at : k ≡ m = cc in subst S at same) is.rows;
  }

  -- and go down from row to row
  on-down : (h : Heap K) (n l : ℕ) (o : Option ℕ) (es : List (Entry K)) → ((k : ℕ) → o ≡ Some k → HasLink (links_at h) l k) → IsKeyless h l → AreChainRows (form_at h) o es → IsDown (IsKeyless h) h l (rows_on (form_at h) n o)
  unfolding rows_on AreChainRows
  on-down h zero l o es has keyless rows = down-end (IsKeyless h) h l
  on-down h (suc n) l None es has keyless rows = down-end (IsKeyless h) h l
  on-down h (suc n) l (Some k) [] has keyless rows = absurd cc
  on-down h (suc n) l (Some k) (e ∷ es) has keyless rows =
      let at : rows.link ≡ k = cc in
      let row : form_at h k ≡ Some (node chain (e.link ∷ option_to_list rows.next)) = ap (form_at h) (sym at) ∙ rows.row in
      let rest = on-down h n k rows.next es (next-linked h k e.link rows.next row) (ap (key_of (form_at h)) row) rows.rest in
      down-then (IsKeyless h) h l k (rows_on (form_at h) n (next_in (form_at h k))) (has k refl) keyless (subst (λ o. IsDown (IsKeyless h) h k (rows_on (form_at h) n o)) (sym (next-row (form_at h) k e.link rows.next row)) rest)

  pub way-goes : (cmp : K → K → Ordering) (h : Heap K) (most : ℕ) → GoesDown h cmp (λ _. []) (λ k. rows_on (form_at h) most (Some k))
  way-goes cmp h most = record {
    entry = λ l x has keyless. down-end (IsKeyless h) h l;
    chain = λ l k P has keyless is. on-down h most l (Some k) is.entries (λ m e. let at : k ≡ m = cc in subst (HasLink (links_at h) l) at has) keyless is.rows;
  }

  -- the path over a key
  abbrev pub way-paths : (cmp : K → K → Ordering) (code : K → ℕ) → Paths cmp code
  way-paths cmp code = record { entry = λ F x. []; chain = λ F most k. rows_on F most (Some k); goes = way-goes cmp; says = λ F G S stays. way-says cmp code F G stays }

  -- what no entry leads to and the first row of a chain does is a row of the chain
  module _ (F : Forms K) (l : ℕ) where
    abbrev LeadsOff : Entry K → Type 0
    LeadsOff e = Reaches (links_in F) e.link l → ⊥

    on-reach : (n : ℕ) (o : Option ℕ) (es : List (Entry K)) → length es ≤ n → AreChainRows F o es → All LeadsOff es → (m : ℕ) → o ≡ Some m → Reaches (links_in F) m l → 0 < count l (rows_on F n o)
    unfolding AreChainRows
    on-reach n o [] few rows off m is way = absurd (let bad : None ≡ Some m = sym rows ∙ is in cc)
    on-reach zero o (e ∷ es) few rows off m is way = absurd (omega (arith, few))
    on-reach (suc n) o (e ∷ es) few rows off m is way =
        let at : rows.link ≡ m = (let both : Some rows.link ≡ Some m = sym rows.here ∙ is in cc) in
        let row : F m ≡ Some (node chain (e.link ∷ option_to_list rows.next)) = ap F (sym at) ∙ rows.row in
        let all : rows_on F (suc n) o ≡ m ∷ rows_on F n rows.next = ap (rows_on F (suc n)) is ∙ on-row F n m ∙ ap (λ b. m ∷ rows_on F n b) (next-row F m e.link rows.next row) in
        let later = λ (k : ℕ) (next : rows.next ≡ Some k) (down : Reaches (links_in F) k l). on-reach n rows.next es (omega (arith, few)) rows.rest (All-tail LeadsOff e es off) k next down in
        let apart : LeadsOff e = All-head LeadsOff e es off in
        subst (λ ks. 0 < count l ks) (sym all)
        (elim (split-way (links_in F) m l way) as (λ _. 0 < count l (m ∷ rows_on F n rows.next)) [
          | inl same ↦ subst (λ x. 0 < count x (m ∷ rows_on F n rows.next)) same (count-here m (rows_on F n rows.next))
          | inr step ↦
              let some : 0 < count step.0 (e.link ∷ option_to_list rows.next) = subst (λ ks. 0 < count step.0 ks) (ap links_of row) step.1 in
              elim (one-of step.0 e.link rows.next some) as (λ _. 0 < count l (m ∷ rows_on F n rows.next)) [
                | inl same ↦ absurd (apart (subst (λ x. Reaches (links_in F) x l) same step.2))
                | inr next ↦ count-later l m (rows_on F n rows.next) (later step.0 next step.2)
              ]
        ])

    module _ (cmp : K → K → Ordering) (code : K → ℕ) (first second : Entry K) where
      -- a part of two entries has both
      both-in : (d p : ℕ) → 2 ≤ length (part cmp code d p (first ∷ second ∷ [])) → (digit_at (code first.key) d ≡ p) × (part cmp code d p (first ∷ second ∷ []) ≡ first ∷ second ∷ [])
      both-in d p two = elim (cases_eq (digit_at (code first.key) d) p) as (λ _. (digit_at (code first.key) d ≡ p) × (part cmp code d p (first ∷ second ∷ []) ≡ first ∷ second ∷ [])) [
        | inl same ↦ elim (cases_eq (digit_at (code second.key) d) p) as (λ _. (digit_at (code first.key) d ≡ p) × (part cmp code d p (first ∷ second ∷ []) ≡ first ∷ second ∷ [])) [
          | inl also ↦ (same, part-here cmp code d p first (second ∷ []) same ∙ ap (λ es. first ∷ es) (part-here cmp code d p second [] also))
          | inr other ↦ absurd (omega (arith, two, ap length (part-here cmp code d p first (second ∷ []) same), ap length (part-elsewhere cmp code d p second [] other)))
        ]
        | inr other ↦ elim (cases_eq (digit_at (code second.key) d) p) as (λ _. (digit_at (code first.key) d ≡ p) × (part cmp code d p (first ∷ second ∷ []) ≡ first ∷ second ∷ [])) [
          | inl also ↦ absurd (omega (arith, two, ap length (part-elsewhere cmp code d p first (second ∷ []) other), ap length (part-here cmp code d p second [] also)))
          | inr neither ↦ absurd (omega (arith, two, ap length (part-elsewhere cmp code d p first (second ∷ []) other), ap length (part-elsewhere cmp code d p second [] neither)))
        ]
      ]

      abbrev over_below : ℕ → ℕ → ℕ → ℕ → List ℕ
      over_below most left d z = rows_below (λ _. []) (λ k. rows_on F most (Some k)) F left d (code first.key) z

      -- what a link of a trie row of both leads to
      by-link : (most left d z e n : ℕ) (ls : List ℕ) → IsRow F z d e n ls → ((p : ℕ) → p < 32 → IsPlace F (λ k P. IsTrie cmp code F left (suc d) k P) (place_of e n ls p) (part cmp code d p (first ∷ second ∷ []))) → LeadsOff first → LeadsOff second
          → (k : ℕ) → Reaches (links_in F) k l → (IsTrie cmp code F left (suc d) k (first ∷ second ∷ []) → 0 < count l (way_rows F most left (suc d) (code first.key) k))
          → (p : ℕ) × (p < 32) × ((place_of e n ls p ≡ At k) ⊎ (place_of e n ls p ≡ Node k)) → 0 < count l (over_below most left d z)
      by-link most left d z e n ls is places off off' k down rec at = elim at.2 as (λ _. 0 < count l (over_below most left d z)) [
        | inl entry_there ↦
            let stands = subst (λ q. IsPlace F (λ j P. IsTrie cmp code F left (suc d) j P) q (part cmp code d at.0 (first ∷ second ∷ []))) entry_there (places at.0 at.1) in
            let all : All LeadsOff (first ∷ second ∷ []) = All-cons LeadsOff first (second ∷ []) off (All-cons LeadsOff second [] off' (All-nil LeadsOff)) in
            let one : All LeadsOff (entry stands.0 k ∷ []) = subst (All LeadsOff) stands.1 (All-filter (λ y. nat_eq (digit_at (code y.key) d) at.0) LeadsOff (first ∷ second ∷ []) all) in
            absurd (All-head LeadsOff (entry stands.0 k) [] one down)
        | inr node_there ↦
            let stands = subst (λ q. IsPlace F (λ j P. IsTrie cmp code F left (suc d) j P) q (part cmp code d at.0 (first ∷ second ∷ []))) node_there (places at.0 at.1) in
            let inside = both-in d at.0 stands.0 in
            let there : place_in (F z) (digit_at (code first.key) d) ≡ Node k = place-in F z d e n (digit_at (code first.key) d) ls is ∙ ap (place_of e n ls) inside.0 ∙ node_there in
            subst (λ q. 0 < count l (rows_from_place (λ _. []) (λ j. rows_to (λ _. []) (λ i. rows_on F most (Some i)) F left (suc d) (code first.key) j) q)) (sym there) (rec (subst (IsTrie cmp code F left (suc d) k) inside.1 stands.1))
      ]

      -- what no entry leads to and the trie of two entries does is a row over the first one
      pub two-rows : (most left d z : ℕ) → 2 ≤ most → IsTrie cmp code F left d z (first ∷ second ∷ []) → LeadsOff first → LeadsOff second → Reaches (links_in F) z l → 0 < count l (way_rows F most left d (code first.key) z)
      unfolding IsTrie
      two-rows most zero d z enough is off off' way =
          let all : All LeadsOff is.entries = all-same LeadsOff (first ∷ second ∷ []) is.entries (same-sym is.entries (first ∷ second ∷ []) is.same) (All-cons LeadsOff first (second ∷ []) off (All-cons LeadsOff second [] off' (All-nil LeadsOff))) in
          let few : length is.entries ≤ most = omega (arith, same-length is.entries (first ∷ second ∷ []) is.same, enough) in
          subst (λ ks. 0 < count l ks) (sym (rows-last (λ _. []) (λ k. rows_on F most (Some k)) F d (code first.key) z)) (on-reach most (Some z) is.entries few is.rows all z refl way)
      two-rows most (suc left) d z enough is off off' way =
          let rec = λ (k : ℕ) (down : Reaches (links_in F) k l) (sub : IsTrie cmp code F left (suc d) k (first ∷ second ∷ [])). two-rows most left (suc d) k enough sub off off' down in
          subst (λ ks. 0 < count l ks) (sym (rows-first (λ _. []) (λ k. rows_on F most (Some k)) F left d (code first.key) z))
          (elim (split-way (links_in F) z l way) as (λ _. 0 < count l (z ∷ over_below most left d z)) [
            | inl same ↦ subst (λ x. 0 < count x (z ∷ over_below most left d z)) same (count-here z (over_below most left d z))
            | inr step ↦
                let some : 0 < count step.0 is.links = subst (λ ks. 0 < count step.0 ks) (ap links_of is.row.row) step.1 in
                count-later l z (over_below most left d z)
                (by-link most left d z is.entries is.nodes is.links is.row is.places off off' step.0 step.2 (rec step.0 step.2) (link-placed is.entries is.nodes is.links is.row.sets step.0 some))
          ])
