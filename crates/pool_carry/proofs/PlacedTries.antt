-- The pool of rooted rows: where what its roots reach stands, and the tries among it.
use Rattle.std.proofs.Common.{◌≡◌, ℕ, ◌+◌, ◌<◌, arith, inl, inr, List, [], ◌∷◌, length, map, ap}
use Rattle.std.specs.Prelude.{◌==◌, slice_index}
use Rattle.std.specs.Ordering.{nat_cmp}
use Rattle.std.specs.Cmp.Lexicographic.{slice_cmp}
use Rattle.node_heap.specs.Links.{count, Reaches, HasLink}
use Rattle.node_heap.specs.Forms.{Forms, links_in}
use Rattle.node_heap.proofs.Counts.{count-cons, test_same}
use Rattle.node_heap.proofs.Reach.{Reaches-then, Reaches-trans}
use Rattle.champ_chain.specs.Entry.{Entry, SameSet}
use Rattle.champ_chain.proofs.SetLemmas.{Among, same-sym, same-count}
use Rattle.champ_trie.specs.Trie.{IsCanonTo}
use Rattle.champ_trie.specs.Walk.{rows_from, entries_of}
use Rattle.champ_trie.proofs.WalkLemmas.{trie-walk}
use Rattle.pool_order.specs.Order.{order}
use Rattle.pool_text.specs.Rows.{Bytes}
use Rattle.pool_text.specs.Pool.{forms_in, row_count, place_in, settings_by, pool}
use Rattle.pool_text.specs.Renaming.{IsRenamed, IsRooted}
use Rattle.pool_text.specs.declared.pool.Pool.{Pool}
use Rattle.pool_text.proofs.Placed.{place-is}
use Rattle.pool_text.proofs.PoolRows.{order-of-pool, pool-length, pool-renamed, place-back, pool-ranked}
use Rattle.pool_check.specs.Tries.{entries_below}
use Rattle.pool_check.specs.Readings.{moved}
use Rattle.pool_check.proofs.TrieReadings.{trie-reads-the-same}
use Rattle.pool_check.proofs.VectorReadings.{all-at}
use Rattle.pool_carry.proofs.EntriesSame.{entries-same}

-- the link of an entry is among the links of all
among-link : (e : Entry Bytes) (E : List (Entry Bytes)) → Among e E → 0 < count e.link (map (λ (d : Entry Bytes). d.link) E)
among-link e [] nowhere = absurd nowhere
among-link e (d ∷ ds) (inl same) =
    let links : d.link ≡ e.link = ap (λ (x : Entry Bytes). x.link) same in
    omega (arith, count-cons e.link d.link (map (λ (x : Entry Bytes). x.link) ds), test_same d.link e.link links)
among-link e (d ∷ ds) (inr there) = omega (arith, count-cons e.link d.link (map (λ (x : Entry Bytes). x.link) ds), among-link e ds there)

module _ (bits history many : ℕ) (G : Forms Bytes) (roots : List ℕ) (rooted : IsRooted many G roots) where
  abbrev Q : Pool
  Q = pool many G roots (settings_by bits history)

  abbrev H : Forms Bytes
  H = forms_in Q

  abbrev listed : List ℕ
  listed = order many (links_in G) roots

  abbrev place : ℕ → ℕ
  place = place_in listed

  -- the roots reach the row
  pub record IsSeen (l : ℕ) : Type 0 where
    pub top : ℕ
    pub root : 0 < count top roots
    pub reached : Reaches (links_in G) top l

  pub seen-placed : (l : ℕ) → IsSeen l → IsRenamed place G H l
  seen-placed l seen = pool-renamed many G roots rooted (settings_by bits history) seen.top l seen.root seen.reached

  pub seen-back : (l : ℕ) → IsSeen l → slice_index listed (place l) ≡ l
  seen-back l seen = place-back many G roots rooted seen.top l seen.root seen.reached

  pub seen-then : (l k : ℕ) → IsSeen l → HasLink (links_in G) l k → IsSeen k
  seen-then l k seen has = record { top = seen.top; root = seen.root; reached = Reaches-then (links_in G) seen.top l k seen.reached has }

  place-low : (l : ℕ) → IsSeen l → place l < row_count Q
  place-low l seen =
      let at = place-is listed l ((order-of-pool many G roots rooted).all seen.top l seen.root seen.reached) in
      omega (arith, at.0, pool-length many G roots rooted (settings_by bits history))

  -- a canonical trie
  module _ (code : Bytes → ℕ) (deepest l : ℕ) (E : List (Entry Bytes)) (seen : IsSeen l) (canon : IsCanonTo (slice_cmp nat_cmp) code deepest G l E) where
    -- stands under its place with the places of its entries
    pub canon-placed : IsCanonTo (slice_cmp nat_cmp) code deepest H (place l) (map (moved place) E)
    canon-placed = (trie-reads-the-same place G H l (seen-placed l seen) ℕ).canonical (slice_cmp nat_cmp) code deepest E canon

    pub entries-placed : SameSet (map (moved place) E) (entries_below (row_count Q) H (place l))
    entries-placed =
        same-sym (entries_below (row_count Q) H (place l)) (map (moved place) E)
        (entries-same H (pool-ranked many G roots rooted (settings_by bits history)) (row_count Q) code (deepest + 1) 0 (place l) (map (moved place) E) (place-low l seen) canon-placed.trie)

    -- and the roots reach these
    pub entry-seen : (e : Entry Bytes) → Among e E → IsSeen e.link
    entry-seen e there =
        let steps : ℕ = deepest + 1 + length E in
        let walked : List ℕ = entries_of G (rows_from steps G l) in
        let same : SameSet walked (map (λ (d : Entry Bytes). d.link) E) = trie-walk (slice_cmp nat_cmp) code G (deepest + 1) 0 l E canon.trie steps (length E) (omega arith) (omega arith) in
        let some : 0 < count e.link walked = omega (arith, among-link e E there, same-count (λ k. k == e.link) walked (map (λ (d : Entry Bytes). d.link) E) same) in
        let down : Reaches (links_in G) l e.link = all-at (λ k. Reaches (links_in G) l k) walked ((trie-reads-the-same place G H l (seen-placed l seen) ℕ).reached steps) e.link some in
        record { top = seen.top; root = seen.root; reached = Reaches-trans (links_in G) seen.top l e.link seen.reached down }
