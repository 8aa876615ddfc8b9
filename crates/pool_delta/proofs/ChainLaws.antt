-- A chain stands for a valid pool, and a chain followed by what a valid pool has more is a chain.
use Rattle.std.proofs.Common.{◌≡◌, ◌⊎◌, ℕ, ◌+◌, ◌-◌, ◌<◌, ◌≤◌, Bool, true, false, ◌&&◌, cond, List, length, get_or, Option, Some, None, option_map, refl, ap, sym, ◌∙◌, arith, inl, inr, length-append}
use Rattle.std.specs.Prelude.{slice_index}
use Rattle.std.specs.List.{list_all}
use Rattle.std.proofs.lemmas.Bool.{cases_lt, and_parts}
use Rattle.std.proofs.lemmas.List.{map-id, length-map}
use Rattle.node_heap.specs.Links.{count, here}
use Rattle.node_heap.specs.Forms.{Form, Forms, cell, node, links_in}
use Rattle.rrb_core.proofs.LinkCounts.{count-at}
use Rattle.pool_order.specs.Order.{order}
use Rattle.pool_order.specs.Laws.{IsOrder}
use Rattle.pool_text.specs.Rows.{Bytes, is_in_range}
use Rattle.pool_text.specs.Rules.{Rules, present_rules}
use Rattle.pool_text.specs.Pool.{forms_in, row_count, place_in, relink, Settings, settings_by, pool}
use Rattle.pool_text.specs.Renaming.{IsRenamed}
use Rattle.pool_text.specs.declared.pool.Pool.{Pool}
use Rattle.pool_text.specs.declared.damage.Damage.{Damage}
use Rattle.pool_text.specs.declared.damage.Damage.TheVariants.{Link, Text, Vector, Trie, Kind}
use Rattle.pool_text.proofs.PoolRows.{order-of-pool, pool-length, pool-renamed}
use Rattle.pool_text.proofs.Ordered.{pool-roots}
use Rattle.pool_check.specs.Rows.{rows_in_range_by, links_lead_back, texts_are_lines}
use Rattle.pool_check.specs.Vectors.{vectors_stand}
use Rattle.pool_check.specs.Tries.{tries_stand_by}
use Rattle.pool_check.specs.Kinds.{roots_are_of_kind, undo_fits}
use Rattle.pool_check.specs.Damages.{open_damage, IsValidBy, IsValid}
use Rattle.pool_check.specs.Passing.{PassesAsMade}
use Rattle.pool_check.proofs.TestLemmas.{roots-low}
use Rattle.pool_check.proofs.OwnRows.{place-at}
use Rattle.pool_check.proofs.PoolPasses.{passes-as-made}
use Rattle.pool_delta.specs.Chains.{IsChain, chain_pool, with_part}
use Rattle.pool_delta.specs.Delta.{placing, delta}
use Rattle.pool_delta.specs.Laws.{CanFollow, ChainsStand, DeltaGoesOn}
use Rattle.pool_delta.proofs.Placed.{get-front}
use Rattle.pool_delta.proofs.DeltaStands.{reached-low, rooted, are-placed, more-back, row-renamed, renamed, roots-are}
use Rattle.pool_delta.proofs.Comes.{HasGoodRows, ComesFrom, come-good, kinds-same, undo-fits-same}

-- ## The open tests

pub record PassesOpen (rules : Rules) (P : Pool) : Type 0 where
  pub lead_back : links_lead_back P ≡ true
  pub lines : texts_are_lines P ≡ true
  pub vectors : vectors_stand P ≡ true
  pub tries : tries_stand_by rules P ≡ true
  pub kinds : roots_are_of_kind P ≡ true
  pub fits : undo_fits P ≡ true

passed : (t : Bool) (d : Damage) (rest : Option Damage) → cond t rest (Some d) ≡ None → (t ≡ true) × (rest ≡ None)
passed true d rest h = (refl, h)
passed false d rest h = absurd (let e : Some d ≡ None = h in cc)

pub open-passed : (rules : Rules) (P : Pool) → open_damage rules P ≡ None → PassesOpen rules P
unfolding open_damage
open-passed rules P h =
    let a = passed (links_lead_back P) Link _ h in
    let b = passed (texts_are_lines P) Text _ a.1 in
    let c = passed (vectors_stand P) Vector _ b.1 in
    let d = passed (tries_stand_by rules P) Trie _ c.1 in
    let e = passed (roots_are_of_kind P && undo_fits P) Kind None d.1 in
    let both = and_parts (roots_are_of_kind P) (undo_fits P) e.0 in
    record { lead_back = a.0; lines = b.0; vectors = c.0; tries = d.0; kinds = both.0; fits = both.1 }

pub passed-open : (rules : Rules) (P : Pool) → PassesOpen rules P → open_damage rules P ≡ None
unfolding open_damage
passed-open rules P v = rw (v.lead_back, v.lines, v.vectors, v.tries, v.kinds, v.fits) refl

pub range-of : (P : Pool) → list_all is_in_range P.rows ≡ true → rows_in_range_by present_rules P ≡ true
unfolding rows_in_range_by
range-of P h = h

of-range : (P : Pool) → rows_in_range_by present_rules P ≡ true → list_all is_in_range P.rows ≡ true
unfolding rows_in_range_by
of-range P h = h

chain-good : (C : Pool) → IsChain C → HasGoodRows present_rules C
chain-good C is =
    let v = open-passed present_rules C is.passes in
    record { in_range = range-of C is.in_range; lead_back = v.lead_back; lines = v.lines; vectors = v.vectors; tries = v.tries }

valid-good : (rules : Rules) (P : Pool) → IsValidBy rules P → HasGoodRows rules P
valid-good rules P v = record { in_range = v.in_range; lead_back = v.lead_back; lines = v.lines; vectors = v.vectors; tries = v.tries }

-- ## The pool of a chain

module _ (C : Pool) (is : IsChain C) where
  open-tests : PassesOpen present_rules C
  open-tests = open-passed present_rules C is.passes

  abbrev back : links_lead_back C ≡ true
  back = open-tests.lead_back

  abbrev G : Forms Bytes
  G = forms_in C

  abbrev listed : List ℕ
  listed = order (row_count C) (links_in G) C.roots

  abbrev s : Settings
  s = settings_by C.bits C.history

  made : PassesAsMade G C.roots (chain_pool C)
  made = passes-as-made (row_count C) G C.roots (rooted C back) s

  ordered : IsOrder (links_in G) C.roots listed
  ordered = order-of-pool (row_count C) G C.roots (rooted C back)

  comes : (p : ℕ) → p < row_count (chain_pool C) → ComesFrom present_rules (chain_pool C) p
  unfolding pool
  comes p low =
      let inside : p < length listed = omega (arith, low, pool-length (row_count C) G C.roots (rooted C back) s) in
      let k : ℕ = get_or listed p 0 in
      let from = ordered.reached k (count-at listed p 0 inside) in
      record {
        source = C;
        name = place_in listed;
        link = k;
        low = reached-low C back from.0 k from.2 (roots-low C back from.0 from.1);
        good = chain-good C is;
        bits = refl;
        image = pool-renamed (row_count C) G C.roots (rooted C back) s from.0 k from.1 from.2;
        at = place-at listed ordered.once p inside;
      }

  pub chain-stands-valid : IsValid (chain_pool C)
  unfolding pool
  chain-stands-valid =
      let good = come-good present_rules (chain_pool C) made.lead_back comes in
      let images : (r : ℕ) → 0 < count r C.roots → IsRenamed (place_in listed) G (forms_in (chain_pool C)) r = λ r root. pool-renamed (row_count C) G C.roots (rooted C back) s r r root (here r) in
      record {
        in_range = good.in_range;
        lead_back = made.lead_back;
        lines = good.lines;
        vectors = good.vectors;
        tries = good.tries;
        kinds = kinds-same C (chain_pool C) (place_in listed) back made.lead_back is.roots (pool-roots (row_count C) G C.roots (rooted C back) s) images ∙ open-tests.kinds;
        fits = undo-fits-same C (chain_pool C) (place_in listed) back made.lead_back is.roots (pool-roots (row_count C) G C.roots (rooted C back) s) images refl ∙ open-tests.fits;
        in_order = made.in_order;
      }

pub chains-stand : ChainsStand
chains-stand C is = chain-stands-valid C is

-- ## What a pool has more

relink-own : (r : Option (Form Bytes)) → option_map (relink (λ l. l)) r ≡ r
relink-own None = refl
relink-own (Some (cell x)) = refl
relink-own (Some (node kind links)) = ap (λ ks. Some (node kind ks)) (map-id links)

module _ (C P : Pool) (is : IsChain C) (follows : CanFollow C P) where
  abbrev Q : Pool
  Q = with_part C (delta C P)

  abbrev c_back : links_lead_back C ≡ true
  c_back = (open-tests C is).lead_back

  abbrev p_back : links_lead_back P ≡ true
  p_back = follows.valid.lead_back

  -- a row of the chain stays at its place
  old-row : (l : ℕ) → l < row_count C → forms_in Q l ≡ forms_in C l
  unfolding delta
  old-row l low = get-front C.rows (placing C P).own l low

  rows-both : row_count Q ≡ row_count C + length (placing C P).own
  unfolding delta
  rows-both = length-append C.rows (placing C P).own

  bits-are : P.bits ≡ Q.bits
  bits-are = sym follows.bits

  row-comes : (p : ℕ) → p < row_count Q → ComesFrom present_rules Q p
  row-comes p low = by_place (cases_lt p (row_count C))
    where
      by_place : (p < row_count C) ⊎ (row_count C ≤ p) → ComesFrom present_rules Q p
      by_place (inl before) = record {
        source = C;
        name = λ l. l;
        link = p;
        low = before;
        good = chain-good C is;
        bits = refl;
        image = λ m down. old-row m (reached-low C c_back p m down before) ∙ sym (relink-own (forms_in C m));
        at = refl;
      }
      by_place (inr past) =
          let placed = are-placed C P c_back p_back in
          let from = placed.named (p - row_count C) (omega (arith, low, rows-both, past)) in
          record {
            source = P;
            name = slice_index (placing C P).places;
            link = from.0;
            low = from.1;
            good = valid-good present_rules P follows.valid;
            bits = bits-are;
            image = λ m down. row-renamed C P c_back p_back m (reached-low P p_back from.0 m down from.1);
            at = omega (arith, from.2, past);
          }

  pub goes-on : IsChain Q
  unfolding delta
  goes-on =
      let good = come-good present_rules Q (more-back C P c_back p_back) row-comes in
      record {
        version = is.version;
        bits = is.bits;
        history = follows.history;
        roots = length-map P.roots (slice_index (placing C P).places) ∙ follows.roots;
        in_range = of-range Q good.in_range;
        passes = passed-open present_rules Q (record {
          lead_back = good.lead_back;
          lines = good.lines;
          vectors = good.vectors;
          tries = good.tries;
          kinds = kinds-same P Q (slice_index (placing C P).places) p_back good.lead_back follows.roots (roots-are C P c_back p_back) (renamed C P c_back p_back) ∙ follows.valid.kinds;
          fits = undo-fits-same P Q (slice_index (placing C P).places) p_back good.lead_back follows.roots (roots-are C P c_back p_back) (renamed C P c_back p_back) refl ∙ follows.valid.fits;
        });
      }

pub delta-goes-on : DeltaGoesOn
delta-goes-on C P is follows = goes-on C P is follows
