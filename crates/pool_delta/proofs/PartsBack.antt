-- What the document of a part reads back as.
use Rattle.std.proofs.Common.{◌≡◌, ◌≤◌, ℕ, true, cond, List, length, map, Option, Some, None, refl, ap, sym, ◌∙◌, arith}
use Rattle.std.specs.Prelude.{not, is_some, option_map, option_and_then}
use Rattle.std.specs.List.{list_all}
use Rattle.std.specs.Option.{option_or}
use Rattle.std.proofs.lemmas.Bool.{and_parts, eq-eqb}
use Rattle.std.proofs.lemmas.List.Folds.{list_all-append}
use Rattle.elem_core.specs.declared.codes.TheConstants.{DEEPEST}
use Rattle.serde_json.specs.Data.{Data}
use Rattle.serde_json.specs.View.{items_of as items}
use Rattle.pool_text.specs.Rows.{Bytes, is_in_range}
use Rattle.pool_text.specs.Rules.{present_rules}
use Rattle.pool_text.specs.Pool.{row_count}
use Rattle.pool_text.specs.Document.{naturals, row_value, item_list, numbers_in, four, value_in, or_damage}
use Rattle.pool_text.specs.declared.pool.Pool.{Pool}
use Rattle.pool_text.specs.declared.rules.TheConstants.{PRESENT_VERSION, MOST_HISTORY}
use Rattle.pool_text.specs.declared.damage.Damage.TheVariants.{Json, Form as FormDamage, Bits, Row, Link}
use Rattle.pool_text.proofs.ReadBack.{item_list-items, numbers_in-naturals, all_of-rows, four-is, history-is}
use Rattle.pool_check.specs.Damages.{open_damage}
use Rattle.pool_delta.specs.Parts.{Part, part_document, PartValues, values_in, part_rows, part_from, part_in, part_in_bytes, values_damage, part_value_damage, part_bytes_damage}
use Rattle.pool_delta.specs.Chains.{IsChain, with_part, rows_damage, more_damage, chain_with}
use Rattle.pool_delta.specs.Delta.{delta}
use Rattle.pool_delta.specs.Laws.{CanFollow, IsPartOf, PartsReadBack, DeltasAreUndamaged}
use Rattle.pool_delta.proofs.ChainLaws.{goes-on}

-- ## Parts

abbrev values_of : Part → Option ℕ → Option (List ℕ) → List Data → Option PartValues
values_of p history o ds =
    option_and_then (λ h. option_and_then (λ ks. Some (record { after = p.after; bits = p.bits; history = h; roots = ks; rows = ds; version = PRESENT_VERSION })) o) history

abbrev values : Part → PartValues
values p = record { after = p.after; bits = p.bits; history = p.history; roots = p.roots; rows = map row_value p.rows; version = PRESENT_VERSION }

values-back : (p : Part) → p.history ≤ MOST_HISTORY → length p.roots ≡ 4 → values_in (part_document p) ≡ Some (values p)
unfolding part_document
values-back p within h =
    ap (λ n. values_of p n (option_and_then four (numbers_in (naturals p.roots))) (item_list (items (map row_value p.rows)))) (history-is p.history within)
    ∙ ap (λ o. values_of p (Some p.history) (option_and_then four o) (item_list (items (map row_value p.rows)))) (numbers_in-naturals p.roots)
    ∙ ap (λ o. values_of p (Some p.history) o (item_list (items (map row_value p.rows)))) (four-is p.roots h)
    ∙ ap (λ ds. values_of p (Some p.history) (Some p.roots) ds) (item_list-items (map row_value p.rows))

from-back : (p : Part) → list_all is_in_range p.rows ≡ true → part_from (values p) ≡ Some p
from-back p range = ap (option_map (λ rs. record { after = p.after; bits = p.bits; history = p.history; roots = p.roots; rows = rs })) (all_of-rows DEEPEST p.rows range)

pub part-back : PartsReadBack
unfolding part_in
part-back p within h range = ap (option_and_then part_from) (values-back p within h) ∙ from-back p range

-- a part that goes on where the chain ended, and passes
pub more-undamaged : (C : Pool) (p : Part) (bytes : Bytes) → value_in bytes ≡ Some (part_document p) → p.history ≤ MOST_HISTORY → length p.roots ≡ 4 → list_all is_in_range p.rows ≡ true
    → p.bits ≡ C.bits → p.after ≡ row_count C → open_damage present_rules (with_part C p) ≡ None → more_damage C bytes ≡ None
unfolding more_damage part_bytes_damage part_value_damage
more-undamaged C p bytes value within h range bits after passes =
    ap (λ o. option_or o (option_and_then (rows_damage C) (part_in_bytes bytes)))
    (ap (or_damage Json (λ d. or_damage FormDamage (values_damage C.bits) (values_in d))) value
    ∙ ap (or_damage FormDamage (values_damage C.bits)) (values-back p within h)
    ∙ ap (λ b. cond (not b) (Some Bits) (cond (is_some (part_rows (values p))) None (Some Row))) (eq-eqb p.bits C.bits bits)
    ∙ ap (λ o. cond (is_some o) None (Some Row)) (all_of-rows DEEPEST p.rows range))
    ∙ ap (λ o. option_and_then (rows_damage C) (option_and_then part_in o)) value ∙ ap (option_and_then (rows_damage C)) (part-back p within h range)
    ∙ ap (λ b. cond b (open_damage present_rules (with_part C p)) (Some Link)) (eq-eqb p.after (row_count C) after) ∙ passes

pub with-it : (C : Pool) (p : Part) (bytes : Bytes) → value_in bytes ≡ Some (part_document p) → p.history ≤ MOST_HISTORY → length p.roots ≡ 4 → list_all is_in_range p.rows ≡ true → chain_with C bytes ≡ Some (with_part C p)
with-it C p bytes value within h range = ap (λ o. option_map (with_part C) (option_and_then part_in o)) value ∙ ap (option_map (with_part C)) (part-back p within h range)

module _ (C P : Pool) (is : IsChain C) (follows : CanFollow C P) where
  longer : IsChain (with_part C (delta C P))
  longer = goes-on C P is follows

  own-range : list_all is_in_range (delta C P).rows ≡ true
  own-range = (and_parts (list_all is_in_range C.rows) (list_all is_in_range (delta C P).rows) (sym (list_all-append is_in_range C.rows (delta C P).rows) ∙ longer.in_range)).1

  after-is : (delta C P).after ≡ row_count C
  unfolding delta
  after-is = refl

  bits-are : (delta C P).bits ≡ C.bits
  unfolding delta
  bits-are = sym follows.bits

  pub delta-undamaged : (bytes : Bytes) → value_in bytes ≡ Some (part_document (delta C P)) → IsPartOf C P bytes
  delta-undamaged bytes value = record {
    undamaged = more-undamaged C (delta C P) bytes value longer.history longer.roots own-range bits-are after-is longer.passes;
    with_it = with-it C (delta C P) bytes value longer.history longer.roots own-range;
  }

pub deltas-are-undamaged : DeltasAreUndamaged
deltas-are-undamaged C P bytes is follows value = delta-undamaged C P is follows bytes value
