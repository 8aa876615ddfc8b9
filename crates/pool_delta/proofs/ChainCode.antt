-- What the calls of chains come to.
use Rattle.std.proofs.Common.{◌≡◌, ◌≢◌, ℕ, ◌<◌, ◌≤◌, inl, inr, true, cond, List, length, Option, Some, None, refl, ap, sym, subst, ◌∙◌, arith}
use Rattle.std.specs.Prelude.{option_map, option_and_then}
use Rattle.std.specs.List.{list_all}
use Rattle.std.specs.Option.{option_or}
use Rattle.std.proofs.lemmas.Bool.{cases_lt, eq-eqb, ne_eqb}
use Rattle.std.proofs.lemmas.Option.{slice_get_past}
use Rattle.node_heap.specs.Links.{count}
use Rattle.node_heap.specs.Forms.{links_of}
use Rattle.pool_order.specs.Laws.{AreLinkedBelow}
use Rattle.std.proofs.lemmas.List.{length-map}
use Rattle.std.proofs.lemmas.List.Folds.{list_all-append}
use Rattle.elem_core.specs.declared.codes.TheConstants.{CODE_BITS}
use Rattle.pool_text.specs.Rows.{Bytes, is_in_range}
use Rattle.pool_text.specs.Rules.{present_rules, rules_of}
use Rattle.pool_text.specs.Pool.{forms_in, row_count, links_from, settings_by, pool}
use Rattle.pool_text.specs.Document.{pool_in_bytes, HistoryFitsVersion, present_bytes_damage}
use Rattle.pool_text.specs.declared.pool.Pool.{Pool}
use Rattle.pool_text.specs.declared.rules.TheConstants.{PRESENT_VERSION, MOST_HISTORY}
use Rattle.pool_text.specs.declared.damage.Damage.{Damage}
use Rattle.pool_text.specs.declared.damage.Damage.TheVariants.{Link}
use Rattle.pool_check.specs.Rows.{links_lead_back}
use Rattle.pool_check.specs.Damages.{open_damage, damage, IsValid}
use Rattle.pool_delta.specs.Parts.{Part, part_in_bytes, part_bytes_damage}
use Rattle.pool_delta.specs.Chains.{IsChain, chain_pool, with_part, rows_damage, start_damage, more_damage, chain_with}
use Rattle.pool_check.proofs.TestLemmas.{leads-down}
use Rattle.pool_delta.proofs.ChainLaws.{open-passed, passed-open, chain-stands-valid}
use Rattle.pool_delta.proofs.DeltaStands.{both-true}

-- ## The first document

module _ (bits : ℕ) (bytes : Bytes) where
  pub start-read : (d : Damage) → present_bytes_damage bits bytes ≡ Some d → start_damage bits bytes ≡ Some d
  unfolding start_damage
  start-read d e = ap (λ o. option_or o (option_and_then damage (pool_in_bytes bytes))) e

  pub start-found : (P : Pool) (found : Option Damage) → present_bytes_damage bits bytes ≡ None → pool_in_bytes bytes ≡ Some P → damage P ≡ found → start_damage bits bytes ≡ found
  unfolding start_damage
  start-found P found none is e = ap (λ o. option_or o (option_and_then damage (pool_in_bytes bytes))) none ∙ ap (option_and_then damage) is ∙ e

pub present-rules-are : (P : Pool) → P.version ≡ PRESENT_VERSION → rules_of P.version ≡ Some present_rules
present-rules-are P v = ap rules_of v

pub history-fits : (P : Pool) → P.version ≡ PRESENT_VERSION → P.history ≤ MOST_HISTORY → HistoryFitsVersion P
history-fits P v within = record { within = within; older = λ other. absurd (other v) }

pub start-chain : (P : Pool) → P.version ≡ PRESENT_VERSION → P.bits ≤ CODE_BITS → P.history ≤ MOST_HISTORY → length P.roots ≡ 4 → list_all is_in_range P.rows ≡ true → open_damage present_rules P ≡ None → IsChain P
start-chain P v bits history roots range passes = record { version = v; bits = bits; history = history; roots = roots; in_range = range; passes = passes }

-- ## Those after it

module _ (C : Pool) (bytes : Bytes) where
  pub more-read : (d : Damage) → part_bytes_damage C.bits bytes ≡ Some d → more_damage C bytes ≡ Some d
  unfolding more_damage
  more-read d e = ap (λ o. option_or o (option_and_then (rows_damage C) (part_in_bytes bytes))) e

  module _ (p : Part) (none : part_bytes_damage C.bits bytes ≡ None) (is : part_in_bytes bytes ≡ Some p) where
    pub more-rows : more_damage C bytes ≡ rows_damage C p
    unfolding more_damage
    more-rows = ap (λ o. option_or o (option_and_then (rows_damage C) (part_in_bytes bytes))) none ∙ ap (option_and_then (rows_damage C)) is

    pub more-link : p.after ≢ row_count C → more_damage C bytes ≡ Some Link
    more-link other = more-rows ∙ ap (λ b. cond b (open_damage present_rules (with_part C p)) (Some Link)) (ne_eqb p.after (row_count C) other)

    pub more-found : p.after ≡ row_count C → (found : Option Damage) → open_damage present_rules (with_part C p) ≡ found → more_damage C bytes ≡ found
    more-found same found e = more-rows ∙ ap (λ b. cond b (open_damage present_rules (with_part C p)) (Some Link)) (eq-eqb p.after (row_count C) same) ∙ e

    pub more-with : chain_with C bytes ≡ Some (with_part C p)
    more-with = ap (option_map (with_part C)) is

pub range-both : (C : Pool) (p : Part) → list_all is_in_range C.rows ≡ true → list_all is_in_range p.rows ≡ true → list_all is_in_range (with_part C p).rows ≡ true
range-both C p h k = list_all-append is_in_range C.rows p.rows ∙ both-true (list_all is_in_range C.rows) (list_all is_in_range p.rows) h k

pub longer-chain : (C : Pool) (p : Part) → IsChain C → p.history ≤ MOST_HISTORY → length p.roots ≡ 4 → list_all is_in_range p.rows ≡ true → open_damage present_rules (with_part C p) ≡ None → IsChain (with_part C p)
longer-chain C p is history roots range passes = record { version = is.version; bits = is.bits; history = history; roots = roots; in_range = range-both C p is.in_range range; passes = passes }

-- ## The pool of a chain

pub chain-back : (C : Pool) → IsChain C → links_lead_back C ≡ true
chain-back C is = (open-passed present_rules C is.passes).lead_back

pub rows-linked : (P : Pool) → links_lead_back P ≡ true → AreLinkedBelow (row_count P) (links_from P.rows)
rows-linked P back = record {
  rank = λ l. l;
  falls = leads-down P back;
  inside = λ l k has. elim (cases_lt l (row_count P)) as (λ _. k < row_count P) [
    | inl low ↦ omega (arith, low, leads-down P back l k has)
    | inr past ↦ absurd (omega (arith, has, ap (λ o. count k (links_of o)) (slice_get_past P.rows l past)))
  ];
}

-- the pool that is made of a chain's rows
pub record IsMade (C P : Pool) : Type 0 where
  pub valid : IsValid P
  pub version : P.version ≡ PRESENT_VERSION
  pub bits : P.bits ≡ C.bits
  pub history : P.history ≡ C.history
  pub roots : length P.roots ≡ length C.roots

pub of-chain : (C : Pool) → IsChain C → IsMade C (chain_pool C)
unfolding pool
of-chain C is = record { valid = chain-stands-valid C is; version = refl; bits = refl; history = refl; roots = length-map C.roots _ }

pub chain-made : (C P : Pool) (roots : List ℕ) → IsChain C → roots ≡ C.roots → P ≡ pool (row_count C) (forms_in C) roots (settings_by C.bits C.history) → IsMade C P
chain-made C P roots is same made =
    subst (IsMade C) (sym (made ∙ ap (λ ks. pool (row_count C) (forms_in C) ks (settings_by C.bits C.history)) same)) (of-chain C is)
