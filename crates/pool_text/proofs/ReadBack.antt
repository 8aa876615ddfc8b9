-- What the document of a pool reads back as.
use Rattle.std.proofs.Common.{◌≡◌, ◌≤◌, ℕ, Bool, true, false, ◌&&◌, cond, eqb, List, [], ◌∷◌, length, map, Option, Some, None, refl, ap, ◌∙◌, arith}
use Rattle.std.specs.Prelude.{not, is_some, option_map, option_and_then}
use Rattle.std.specs.List.{list_all}
use Rattle.std.proofs.lemmas.Bool.{both_ways}
use Rattle.std.proofs.lemmas.Bool.Decides.{nat_tests}
use Rattle.node_heap.specs.Forms.{Form, cell, node, leaf, inner, trie, chain, pair, state}
use Rattle.serde_json.specs.Data.{Data}
use Rattle.serde_json.specs.View.{items_of as items}
use Rattle.pool_text.specs.Rows.{Bytes, is_between, is_in_range, is_in_range_to}
use Rattle.pool_text.specs.Rules.{present_rules}
use Rattle.pool_text.specs.Document.{natural, naturals, row_value, document, number_in, item_list, elements_in, all_of, numbers_in, form_from, kept_if, row_in, DocumentParts, four, history_in, parts_in, pool_from, pool_in, parts_damage, or_damage, value_damage}
use Rattle.pool_text.specs.Laws.{ReadsBackAs}
use Rattle.pool_text.specs.declared.pool.Pool.{Pool}
use Rattle.pool_text.specs.declared.rules.TheConstants.{PRESENT_VERSION, MOST_HISTORY}
use Rattle.pool_text.specs.declared.damage.Damage.TheVariants.{Form as FormDamage, Bits, Row}

pub item_list-items : (ds : List Data) → item_list (items ds) ≡ ds
item_list-items [] = refl
item_list-items (d ∷ ds) = ap (λ es. d ∷ es) (item_list-items ds)

pub all_of-naturals : (ns : List ℕ) → all_of number_in (map natural ns) ≡ Some ns
all_of-naturals [] = refl
all_of-naturals (n ∷ ns) = ap (λ o. option_map (λ ms. n ∷ ms) o) (all_of-naturals ns)

pub numbers_in-naturals : (ns : List ℕ) → numbers_in (naturals ns) ≡ Some ns
numbers_in-naturals ns = ap (all_of number_in) (item_list-items (map natural ns)) ∙ all_of-naturals ns

-- each row reads back as itself
pub form_from-row : (r : Form Bytes) → option_and_then form_from (elements_in (row_value r)) ≡ Some r
form_from-row (cell text) = refl
form_from-row (node leaf links) = ap (option_map (node leaf)) (numbers_in-naturals links)
form_from-row (node (inner n) links) = ap (option_map (node (inner n))) (numbers_in-naturals links)
form_from-row (node (trie d e m) links) = ap (option_map (node (trie d e m))) (numbers_in-naturals links)
form_from-row (node chain links) = ap (option_map (node chain)) (numbers_in-naturals links)
form_from-row (node pair links) = ap (option_map (node pair)) (numbers_in-naturals links)
form_from-row (node state links) = ap (option_map (node state)) (numbers_in-naturals links)

module _ (deepest : ℕ) where
  kept_if-Some : (r : Form Bytes) → is_in_range_to deepest r ≡ true → kept_if (is_in_range_to deepest) (Some r) ≡ Some r
  kept_if-Some r h = ap (λ b. cond b (Some r) None) h

  pub row_in-row : (r : Form Bytes) → is_in_range_to deepest r ≡ true → row_in deepest (row_value r) ≡ Some r
  row_in-row r h = ap (kept_if (is_in_range_to deepest)) (form_from-row r) ∙ kept_if-Some r h

both : (a b : Bool) → (a && b) ≡ true → (a ≡ true) × (b ≡ true)
both true b h = (refl, h)
both false b h = absurd (both_ways false refl h)

pub all_of-rows : (deepest : ℕ) (rs : List (Form Bytes)) → list_all (is_in_range_to deepest) rs ≡ true → all_of (row_in deepest) (map row_value rs) ≡ Some rs
all_of-rows deepest [] h = refl
all_of-rows deepest (r ∷ rs) h =
    let pass = both (is_in_range_to deepest r) (list_all (is_in_range_to deepest) rs) h in
    ap (option_and_then (λ y. option_map (λ ys. y ∷ ys) (all_of (row_in deepest) (map row_value rs)))) (row_in-row deepest r pass.0)
    ∙ ap (λ o. option_map (λ ys. r ∷ ys) o) (all_of-rows deepest rs pass.1)

pub four-is : (ks : List ℕ) → length ks ≡ 4 → four ks ≡ Some ks
four-is [] h = absurd (omega (arith, h))
four-is (a ∷ []) h = absurd (omega (arith, h))
four-is (a ∷ b ∷ []) h = absurd (omega (arith, h))
four-is (a ∷ b ∷ c ∷ []) h = absurd (omega (arith, h))
four-is (a ∷ b ∷ c ∷ d ∷ []) h = refl
four-is (a ∷ b ∷ c ∷ d ∷ e ∷ ks) h = absurd (omega (arith, h))

-- a number that is within the greatest bound
pub history-is : (n : ℕ) → n ≤ MOST_HISTORY → history_in (Some (natural n)) ≡ Some n
history-is n within = ap (λ b. cond b (Some n) None) (between n within)
  where
    between : (n : ℕ) → n ≤ MOST_HISTORY → is_between 0 MOST_HISTORY n ≡ true
    between n within = grind (arith, nat_tests)

abbrev parts_of : Pool → Option ℕ → Option (List ℕ) → List Data → Option DocumentParts
parts_of P history o ds = option_and_then (λ h. option_and_then (λ ks. Some (record { bits = P.bits; history = h; roots = ks; rows = ds; version = PRESENT_VERSION })) o) history

parts_in-document : (P : Pool) → P.history ≤ MOST_HISTORY → length P.roots ≡ 4
    → parts_in (document P) ≡ Some (record { bits = P.bits; history = P.history; roots = P.roots; rows = map row_value P.rows; version = PRESENT_VERSION })
unfolding document
parts_in-document P within h =
    ap (λ n. parts_of P n (option_and_then four (numbers_in (naturals P.roots))) (item_list (items (map row_value P.rows)))) (history-is P.history within)
    ∙ ap (λ o. parts_of P (Some P.history) (option_and_then four o) (item_list (items (map row_value P.rows)))) (numbers_in-naturals P.roots)
    ∙ ap (λ o. parts_of P (Some P.history) o (item_list (items (map row_value P.rows)))) (four-is P.roots h)
    ∙ ap (λ ds. parts_of P (Some P.history) (Some P.roots) ds) (item_list-items (map row_value P.rows))

eqb-same : (n : ℕ) → eqb n n ≡ true
eqb-same n = grind (arith, nat_tests)

pub reads-back : (P : Pool) → P.history ≤ MOST_HISTORY → length P.roots ≡ 4 → list_all is_in_range P.rows ≡ true → ReadsBackAs P
unfolding pool_in value_damage
reads-back P within h range = record {
  same =
      ap (option_and_then pool_from) (parts_in-document P within h)
      ∙ ap (option_map (λ rs. record { bits = P.bits; version = PRESENT_VERSION; history = P.history; rows = rs; roots = P.roots })) (all_of-rows present_rules.deepest P.rows range);
  whole =
      ap (or_damage FormDamage (parts_damage P.bits)) (parts_in-document P within h)
      ∙ ap (λ b. cond (not b) (Some Bits) (cond (is_some (all_of (row_in present_rules.deepest) (map row_value P.rows))) None (Some Row))) (eqb-same P.bits)
      ∙ ap (λ o. cond (is_some o) None (Some Row)) (all_of-rows present_rules.deepest P.rows range);
}
