-- What the tests before that of the roots' kinds say of a row, and the facts of roots.
use Rattle.std.proofs.Common.{◌≡◌, ℕ, suc, ◌-◌, ◌<◌, ◌≤◌, ◌^◌, Bool, true, false, ◌&&◌, ltb, leb, List, [], ◌∷◌, length, map, take, drop, get_or, refl, ap, sym, ◌∙◌, arith}
use Rattle.std.specs.Prelude.{Some, IsTrue, ◌↔◌, ◌==◌, nat_lt, nat_le, count_ones, sum_by}
use Rattle.std.specs.List.{list_all}
use Rattle.std.proofs.lemmas.List.{length-map}
use Rattle.std.proofs.lemmas.Bool.{and_parts, leb-true, ltb-true, false≢true}
use Rattle.elem_core.specs.Naming.{IsName, is_name}
use Rattle.elem_core.proofs.NamingLemmas.{is_name-yes, is_name-no}
use Rattle.node_heap.specs.Forms.{Form, node, inner, trie, chain, links_of, links_in}
use Rattle.node_heap.specs.declared.row.TheConstants.{MOST_HEIGHT}
use Rattle.champ_trie.specs.Bits.{rank}
use Rattle.champ_trie.specs.Trie.{code_by}
use Rattle.champ_trie.proofs.BitLemmas.{count-rank}
use Rattle.pool_text.specs.Rows.{Bytes, is_between, is_in_range_to, row_form}
use Rattle.pool_text.specs.Pool.{forms_in, row_count}
use Rattle.pool_text.specs.declared.pool.Pool.{Pool}
use Rattle.pool_text.specs.declared.row.Row.{Row}
use Rattle.pool_check.specs.Vectors.{has_height, is_thick, length_at, are_children, keeps_fill_rule, vectors_stand}
use Rattle.pool_check.specs.Tries.{is_canonical}
use Rattle.pool_check.specs.Rows.{rows_lead_back, links_lead_back}
use Rattle.pool_check.specs.declared.kinds.RowFacts.{RowFacts}
use Rattle.pool_check.specs.Facts.{facts_in, no_facts, facts_over_entries, common_facts, HasRowsThatStand}
use Rattle.pool_check.proofs.TestLemmas.{all-at, leads-down}
use Rattle.pool_check.proofs.PoolLaws.{canonical-at}
use Rattle.pool_check.proofs.KeptRows.{form-is, range-is, links-are}
use Rattle.pool_check.proofs.EntryTests.{trie-has, trie-long, chain-has}
use Rattle.pool_check.proofs.FactLemmas.{inner-facts, trie-facts, chain-facts}

pub name-is : (found : Bool) (x : Bytes) → (IsTrue found ↔ IsName x) → found ≡ is_name x
name-is true x h = sym (is_name-yes x (h.0 refl))
name-is false x h = sym (is_name-no x (λ named. false≢true (h.1 named)))

-- both links of a pair or of a state are low
pub first-low : (k v bound : ℕ) → list_all (λ j. ltb j bound) (k ∷ v ∷ []) ≡ true → k < bound
first-low k v bound h = ltb-true k bound (and_parts (ltb k bound) (ltb v bound && true) h).0

pub second-low : (k v bound : ℕ) → list_all (λ j. ltb j bound) (k ∷ v ∷ []) ≡ true → v < bound
second-low k v bound h = ltb-true v bound (and_parts (ltb v bound) true (and_parts (ltb k bound) (ltb v bound && true) h).1).0

pub chain-some : (deepest : ℕ) (ks : List ℕ) → is_in_range_to {K = Bytes} deepest (node chain ks) ≡ true → 1 ≤ length ks
chain-some deepest ks h = leb-true 1 (length ks) (and_parts (leb 1 (length ks)) (leb (length ks) 2) h).0

-- what is known of a pool's row that was read at its place
pub record IsRead (P : Pool) (deepest l : ℕ) (row : Row) : Type 0 where
  pub more : l < row_count P
  pub form : forms_in P l ≡ Some (row_form row)
  pub ranged : is_in_range_to deepest (row_form row) ≡ true
  pub low : list_all (λ k. ltb k l) (links_of (Some (row_form row))) ≡ true

pub read-at : (P : Pool) (stand : HasRowsThatStand P) (l : ℕ) → l < row_count P → (rows : List Row) → map row_form rows ≡ P.rows → (row : Row) → row ≡ get_or rows l row → (given : Row) → row ≡ given → IsRead P stand.rules.deepest l given
read-at P stand l more rows are row at given is =
    let low : l < length rows = omega (arith, more, length-map rows row_form, ap (λ (forms : List (Form Bytes)). length forms) are) in
    record {
      more = more;
      form = form-is P rows are l row low at given is;
      ranged = range-is P rows are l row low at given is stand.rules stand.in_range;
      low = links-are P rows are l row low at given is stand.lead_back (links_of (Some (row_form given))) refl;
    }

module _ (P : Pool) (stand : HasRowsThatStand P) (l : ℕ) (low : l < row_count P) where
  children-high : (height : ℕ) (ks : List ℕ) → forms_in P l ≡ Some (node (inner height) ks) → list_all (λ k. has_height (height - 1) (forms_in P k)) ks ≡ true
  unfolding vectors_stand are_children
  children-high height ks is =
      let F = forms_in P in
      let a : Bool = list_all (λ k. has_height (height - 1) (F k)) ks in
      let b : Bool = list_all (is_thick F (height - 1)) (take (length ks - 1) ks) in
      let c : Bool = list_all (λ k. nat_le 1 (length (links_in F k))) ks in
      let d : Bool = nat_lt (sum_by (length_at F (height - 1)) ks) (2 ^ 32) in
      let kept : (a && b && c && d) ≡ true = all-at (keeps_fill_rule F) P.rows stand.vectors l (node (inner height) ks) is in
      (and_parts a b (and_parts (a && b) c (and_parts (a && b && c) d kept).0).0).0

  pub inner-is : (height : ℕ) (ks : List ℕ) (all : RowFacts) → forms_in P l ≡ Some (node (inner height) ks) → is_in_range_to {K = Bytes} stand.rules.deepest (node (inner height) ks) ≡ true → all ≡ common_facts (facts_in P) ks
      → record no_facts { root = leb 2 (length ks); over_cells = all.over_cells; over_states = all.over_states } ≡ facts_in P l
  inner-is height ks all is ranged common =
      let some : 1 ≤ height = leb-true 1 height (and_parts (leb 1 height) (leb height MOST_HEIGHT) (and_parts (is_between 1 MOST_HEIGHT height) (is_between 1 32 (length ks)) ranged).0).0 in
      let next : height ≡ suc (height - 1) = omega (arith, some) in
      inner-facts (row_count P) (forms_in P) l (height - 1) ks all (is ∙ ap (λ m. Some (node (inner m) ks)) next) (children-high height ks is) common

  module _ (depth e d : ℕ) (ks : List ℕ) (is : forms_in P l ≡ Some (node (trie depth e d) ks)) (ranged : is_in_range_to {K = Bytes} stand.rules.deepest (node (trie depth e d) ks) ≡ true) where
    count : count_ones e ≡ rank e 32
    count =
        let three = (and_parts (nat_le depth stand.rules.deepest && nat_lt e (2 ^ 32) && nat_lt d (2 ^ 32)) (nat_le (length ks) 32) ranged).0 in
        let two = (and_parts (nat_le depth stand.rules.deepest && nat_lt e (2 ^ 32)) (nat_lt d (2 ^ 32)) three).0 in
        count-rank e (ltb-true e (2 ^ 32) (and_parts (nat_le depth stand.rules.deepest) (nat_lt e (2 ^ 32)) two).1)

    canonical : is_canonical (row_count P) (forms_in P) (code_by stand.rules.code_of P.bits) stand.rules.deepest l (Some (node (trie depth e d) ks)) ≡ true
    canonical = ap (is_canonical (row_count P) (forms_in P) (code_by stand.rules.code_of P.bits) stand.rules.deepest l) (sym is) ∙ canonical-at stand.rules P stand.tries l

    pub entries-fit : count_ones e ≤ length ks
    entries-fit = omega (arith, count, trie-long (forms_in P) (leads-down P stand.lead_back) (row_count P) (code_by stand.rules.code_of P.bits) stand.rules.deepest l depth e d ks canonical)

    pub trie-is : (all : RowFacts) → all ≡ facts_over_entries (depth == 0) (common_facts (facts_in P) (take (count_ones e) ks)) (common_facts (facts_in P) (drop (count_ones e) ks)) → all ≡ facts_in P l
    trie-is all over =
        let falls = leads-down P stand.lead_back in
        over ∙ ap (λ r. facts_over_entries (depth == 0) (common_facts (facts_in P) (take r ks)) (common_facts (facts_in P) (drop r ks))) count
        ∙ trie-facts (row_count P) (forms_in P) falls (code_by stand.rules.code_of P.bits) l depth e d ks low is (trie-has (forms_in P) falls (row_count P) (code_by stand.rules.code_of P.bits) stand.rules.deepest l depth e d ks canonical)

  pub chain-is : (ks : List ℕ) (all : RowFacts) → forms_in P l ≡ Some (node chain ks) → all ≡ facts_over_entries false (common_facts (facts_in P) (take 1 ks)) (common_facts (facts_in P) (drop 1 ks)) → all ≡ facts_in P l
  chain-is ks all is over =
      let falls = leads-down P stand.lead_back in
      let canonical = ap (is_canonical (row_count P) (forms_in P) (code_by stand.rules.code_of P.bits) stand.rules.deepest l) (sym is) ∙ canonical-at stand.rules P stand.tries l in
      over ∙ chain-facts (row_count P) (forms_in P) falls (code_by stand.rules.code_of P.bits) l ks low is (chain-has (forms_in P) falls (row_count P) (code_by stand.rules.code_of P.bits) stand.rules.deepest l ks canonical)

pub roots-low : (P : Pool) → links_lead_back P ≡ true → (bound : ℕ) → bound ≡ row_count P → (roots : List ℕ) → roots ≡ P.roots → list_all (λ k. nat_lt k bound) roots ≡ true
unfolding links_lead_back
roots-low P h bound same roots are =
    ap (λ m. list_all (λ k. nat_lt k m) roots) same ∙ ap (λ ks. list_all (λ k. nat_lt k (row_count P)) ks) are ∙ (and_parts (rows_lead_back 0 P.rows) (list_all (λ k. nat_lt k (row_count P)) P.roots) h).1
