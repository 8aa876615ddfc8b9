-- The walk over the rows of a trie of a valid pool, one row at a time.
use Rattle.std.proofs.Common.{◌≡◌, ℕ, ◌<◌, ◌≤◌, refl, ap, sym, subst, ◌∙◌, arith, true, List, [], ◌∷◌, ◌++◌, length, map, reverse, get_or, append_assoc, append-nil, Option, Some, None, IsSome}
use Rattle.std.specs.Prelude.{slice_get, option_to_list}
use Rattle.std.specs.List.{All, filter_map, flat_map, cons_option}
use Rattle.std.proofs.lemmas.List.{map-append, nil_from_length}
use Rattle.std.proofs.lemmas.List.Elements.{All-nil, All-push, All-pop, All-append, All-take, All-weaker}
use Rattle.std.proofs.lemmas.List.Sorted.{All-permutation, IsPermutation-reverse}
use Rattle.node_heap.specs.Links.{LeadsDown}
use Rattle.node_heap.specs.Forms.{Form, Forms, links_of, links_in}
use Rattle.rrb_core.proofs.LinkCounts.{all-counted}
use Rattle.champ_chain.specs.Entry.{Entry, key_at}
use Rattle.champ_trie.specs.Trie.{code_by}
use Rattle.champ_trie.specs.Walk.{entry_count, own_entries, rows_below}
use Rattle.pool_text.specs.Rows.{Bytes, row_form}
use Rattle.pool_text.specs.Rules.{Rules}
use Rattle.pool_text.specs.Pool.{forms_in, row_count}
use Rattle.pool_text.specs.declared.pool.Pool.{Pool}
use Rattle.pool_text.specs.declared.row.Row.{Row}
use Rattle.pool_check.specs.Tries.{entry_at, entries_below}
use Rattle.pool_check.specs.Keeping.{forms_at}
use Rattle.pool_check.specs.Readings.{moved}
use Rattle.pool_check.specs.Damages.{IsValidBy}
use Rattle.pool_check.proofs.EntriesBelow.{own, rows-low, entries-is}
use Rattle.pool_check.proofs.PoolLaws.{canonical-at}
use Rattle.pool_check.proofs.TestLemmas.{leads-down}
use Rattle.pool_carry.specs.Carried.{is_of_trie}
use Rattle.pool_carry.specs.Making.{seen, AreCoded}
use Rattle.pool_carry.specs.declared.entries.Entry.{Entry as CodedEntry}
use Rattle.pool_text.proofs.FormRows.{count-same, form-read}
use Rattle.pool_carry.proofs.Walk.{entries_waiting, rows_waiting, waiting-last, waiting-turned, rows-fewer}
use Rattle.pool_carry.proofs.WalkRows.{IsWalked, walked}

-- the entries so far, and then those below the rows that wait, are all below the root; these rows are of its trie
pub record IsWalk (n : ℕ) (F : Forms Bytes) (f : ℕ → ℕ) (code : Bytes → ℕ) (root : ℕ) (es : List CodedEntry) (ws : List ℕ) : Type 0 where
  pub whole : map seen es ++ map (moved f) (entries_waiting n F ws) ≡ map (moved f) (entries_below n F root)
  pub codes : AreCoded code es
  pub of_trie : All (λ k. is_of_trie (F k) ≡ true) ws
  pub low : All (λ k. k ≤ root) ws

all-turned : (P : ℕ → Type 0) (ks : List ℕ) → All P ks → All P (reverse ks)
all-turned P ks all = All-permutation P ks (reverse ks) (IsPermutation-reverse ks) all

-- an entry for each link that names one, in two ways
pub own-same : (F : Forms Bytes) (ks : List ℕ) → flat_map (own F) ks ≡ filter_map (entry_at F) ks
own-same F [] = refl
own-same F (k ∷ ks) = by_entry (entry_at F k) (own-same F ks)
  where
    by_entry : (o : Option (Entry Bytes)) → flat_map (own F) ks ≡ filter_map (entry_at F) ks → option_to_list o ++ flat_map (own F) ks ≡ cons_option o (filter_map (entry_at F) ks)
    by_entry None e = e
    by_entry (Some y) e = ap (λ ys. y ∷ ys) e

module _ (n : ℕ) (F : Forms Bytes) (f : ℕ → ℕ) (code : Bytes → ℕ) (root : ℕ) where
  -- at first the root waits
  pub walk-begun : is_of_trie (F root) ≡ true → (es : List CodedEntry) (ws : List ℕ) → es ≡ [] → ws ≡ root ∷ [] → IsWalk n F f code root es ws
  walk-begun is es ws none one =
      subst (λ xs. IsWalk n F f code root xs ws) (sym none)
      (subst (λ ks. IsWalk n F f code root [] ks) (sym one)
      record {
        whole = ap (map (moved f)) (append-nil (entries_below n F root));
        codes = All-nil (λ (e : CodedEntry). e.code ≡ code e.key.now);
        of_trie = All-push (λ k. is_of_trie (F k) ≡ true) [] root (All-nil (λ k. is_of_trie (F k) ≡ true)) is;
        low = All-push (λ k. k ≤ root) [] root (All-nil (λ k. k ≤ root)) (omega arith);
      })

  -- and at last nothing
  pub walk-done : (es : List CodedEntry) (ws : List ℕ) → length ws ≡ 0 → IsWalk n F f code root es ws → map seen es ≡ map (moved f) (entries_below n F root)
  walk-done es ws none walk =
      sym (append-nil (map seen es)) ∙ ap (λ ks. map seen es ++ map (moved f) (entries_waiting n F ks)) (sym (nil_from_length ws none)) ∙ walk.whole

  -- the row that waits last comes next
  module _ (falls : LeadsDown (λ l. l) (links_in F)) (there : root < n) (es : List CodedEntry) (ws rest : List ℕ) (l : ℕ) (popped : ws ≡ rest ++ l ∷ []) (walk : IsWalk n F f code root es ws) where
    pub next-low : l ≤ root
    next-low = (All-pop (λ k. k ≤ root) ws rest (Some l) popped walk.low).1

    pub next-of-trie : is_of_trie (F l) ≡ true
    next-of-trie = (All-pop (λ k. is_of_trie (F k) ≡ true) ws rest (Some l) popped walk.of_trie).1

    -- its entries come before the root
    pub next-entries : (m : ℕ) → root ≤ m → All (λ k. k < m) (own_entries (F l))
    next-entries m long =
        All-weaker (λ k. k < l) (λ k. k < m) (λ k below. omega (arith, below, long, next-low)) (own_entries (F l))
        (All-take (λ k. k < l) (entry_count (F l)) (links_in F l) (all-counted (λ k. k < l) (links_in F l) (λ k some. falls l k some)))

    -- its entries are added, and its rows wait in its place
    pub next-walk : (more : List CodedEntry) (now : List ℕ) → map seen more ≡ map seen es ++ map (moved f) (filter_map (entry_at F) (own_entries (F l))) → AreCoded code more → now ≡ rest ++ reverse (rows_below (F l))
        → All (λ k. is_of_trie (F k) ≡ true) (rows_below (F l)) → IsWalk n F f code root more now
    next-walk more now added coded turned of_trie =
        let own_here : List (Entry Bytes) = filter_map (entry_at F) (own_entries (F l)) in
        let below : List (Entry Bytes) = flat_map (entries_below n F) (rows_below (F l)) in
        let after : List (Entry Bytes) = entries_waiting n F rest in
        let before : entries_waiting n F ws ≡ own_here ++ (below ++ after) =
        ap (entries_waiting n F) popped ∙ waiting-last n F rest l
        ∙ ap (λ E. E ++ after) (entries-is F falls n l (omega (arith, there, next-low)) ∙ ap (λ E. E ++ below) (own-same F (own_entries (F l)))) ∙ append_assoc own_here below after in
        let later : entries_waiting n F now ≡ below ++ after = ap (entries_waiting n F) turned ∙ waiting-turned n F rest (rows_below (F l)) in
        record {
          whole =
              ap (λ E. map seen more ++ map (moved f) E) later
              ∙ ap (λ E. E ++ map (moved f) (below ++ after)) added
              ∙ append_assoc (map seen es) (map (moved f) own_here) (map (moved f) (below ++ after))
              ∙ ap (λ E. map seen es ++ E) (sym (map-append (moved f) own_here (below ++ after)))
              ∙ ap (λ E. map seen es ++ map (moved f) E) (sym before)
              ∙ walk.whole;
          codes = coded;
          of_trie =
              subst (λ ks. All (λ k. is_of_trie (F k) ≡ true) ks) (sym turned)
              (All-append (λ k. is_of_trie (F k) ≡ true) rest (reverse (rows_below (F l))) (All-pop (λ k. is_of_trie (F k) ≡ true) ws rest (Some l) popped walk.of_trie).0
              (all-turned (λ k. is_of_trie (F k) ≡ true) (rows_below (F l)) of_trie));
          low =
              subst (λ ks. All (λ k. k ≤ root) ks) (sym turned)
              (All-append (λ k. k ≤ root) rest (reverse (rows_below (F l))) (All-pop (λ k. k ≤ root) ws rest (Some l) popped walk.low).0
              (all-turned (λ k. k ≤ root) (rows_below (F l))
              (All-weaker (λ k. k < l) (λ k. k ≤ root) (λ k below. omega (arith, below, next-low)) (rows_below (F l)) (rows-low F falls l))));
        }

    -- fewer rows wait then
    pub next-fewer : (now : List ℕ) → now ≡ rest ++ reverse (rows_below (F l)) → rows_waiting n F now < rows_waiting n F ws
    next-fewer now turned =
        omega (arith, ap (rows_waiting n F) popped, ap (rows_waiting n F) turned, rows-fewer F falls n l (omega (arith, there, next-low)) rest)

-- What is known of the row that comes next, at the place l of these rows: it is of a trie, and its entries have keys and come
-- before the root. The walk goes on once these are added and its rows wait in its place.
pub record IsNext (n : ℕ) (F : Forms Bytes) (rows : List Row) (f : ℕ → ℕ) (code : Bytes → ℕ) (root : ℕ) (es : List CodedEntry) (ws rest : List ℕ) (r : Option (Form Bytes)) : Type 0 where
  pub of_trie : is_of_trie r ≡ true
  pub count : entry_count r ≤ length (links_of r)
  pub keys : All (λ k. IsSome (key_at (forms_at rows) k)) (own_entries r)
  pub low : (m : ℕ) → root ≤ m → All (λ k. k < m) (own_entries r)
  pub steps : (more : List CodedEntry) (now : List ℕ) → map seen more ≡ map seen es ++ map (moved f) (filter_map (entry_at (forms_at rows)) (own_entries r)) → AreCoded code more → now ≡ rest ++ reverse (rows_below r)
      → IsWalk n F f code root more now
  pub fewer : (now : List ℕ) → now ≡ rest ++ reverse (rows_below r) → rows_waiting n F now < rows_waiting n F ws

-- over the rows of a valid pool
module _ (from : Rules) (P : Pool) (valid : IsValidBy from P) (rows : List Row) (are : map row_form rows ≡ P.rows) (f : ℕ → ℕ) (code : Bytes → ℕ) (root : ℕ) (there : root < row_count P) (es : List CodedEntry) (ws rest : List ℕ) (l : ℕ)
    (popped : ws ≡ rest ++ l ∷ []) (walk : IsWalk (row_count P) (forms_in P) f code root es ws) where
  falls : LeadsDown (λ l. l) (links_in (forms_in P))
  falls = leads-down P valid.lead_back

  -- the next row is there
  pub next-within : l < length rows
  next-within =
      omega (arith, there, next-low (row_count P) (forms_in P) f code root falls there es ws rest l popped walk, count-same P.rows rows are)

  pub next-there : (row : Row) → row ≡ get_or rows l row → IsNext (row_count P) (forms_in P) rows f code root es ws rest (Some (row_form row))
  next-there row at =
      let n : ℕ = row_count P in
      let F : Forms Bytes = forms_in P in
      let is : F l ≡ Some (row_form row) = form-read P.rows rows are l row (omega (arith, next-within, count-same P.rows rows are)) at in
      let of_trie : is_of_trie (F l) ≡ true = next-of-trie n F f code root falls there es ws rest l popped walk in
      let met : IsWalked n F (code_by from.code_of P.bits) from.deepest (F l) = walked n F (code_by from.code_of P.bits) from.deepest l (F l) of_trie (canonical-at from P valid.tries l) in
      subst (λ r. IsNext n F rows f code root es ws rest r) is
      record {
        of_trie = of_trie;
        count = met.count;
        keys = subst (λ (fs : List (Form Bytes)). All (λ k. IsSome (key_at (λ l. slice_get fs l) k)) (own_entries (F l))) (sym are) met.keys;
        low = next-entries n F f code root falls there es ws rest l popped walk;
        steps = λ more now added coded turned.
            next-walk n F f code root falls there es ws rest l popped walk more now
            (added ∙ ap (λ (fs : List (Form Bytes)). map seen es ++ map (moved f) (filter_map (entry_at (λ l. slice_get fs l)) (own_entries (F l)))) are) coded turned met.rows;
        fewer = next-fewer n F f code root falls there es ws rest l popped walk;
      }
