-- A history of 2^32 - 1 places in sixteen rows: its tests compute, but for the order, which a walk computes.
use Rattle.std.proofs.Common.{◌≡◌, ℕ, refl, true, ap, ◌∙◌, None}
use Rattle.std.specs.Prelude.{[], fold, Some, false}
use Rattle.pool_text.specs.declared.damage.Damage.TheVariants.{Vector, Kind}
use Rattle.std.specs.List.{range_with_len}
use Rattle.std.specs.Str.{bytes_eq}
use Rattle.node_heap.specs.Forms.{links_in}
use Rattle.pool_order.specs.Order.{listed}
use Rattle.pool_text.specs.Rules.{present_rules}
use Rattle.pool_text.specs.Pool.{forms_in, order_in}
use Rattle.pool_text.specs.declared.pool.Pool.{Pool}
use Rattle.pool_text.specs.declared.rules.TheConstants.{MOST_HISTORY}
use Rattle.pool_check.specs.Rows.{rows_in_range, rows_in_range_by, links_lead_back, texts_are_lines}
use Rattle.pool_check.specs.Vectors.{is_thick, length_at, are_children, vectors_stand}
use Rattle.pool_check.specs.Tries.{entries_below, are_branches, tries_stand, tries_stand_by}
use Rattle.pool_check.specs.Kinds.{elements_pass, are_roots, roots_are_of_kind, undo_fits}
use Rattle.pool_check.specs.Damages.{rows_in_order, damage, damage_by}
use Rattle.pool_check.specs.Documents.{full_history, long_history, overfull_history}
use Rattle.pool_check.proofs.TestLemmas.{leads-down, roots-low}
use Rattle.pool_order.proofs.EnteredOnce.{order-is_listed}
use Rattle.pool_check.proofs.DamageLemmas.{valid-undamaged, open-fails}
use Rattle.pool_check.proofs.Refused.{fails-fits}
use Rattle.elem_core.specs.Codes.{text_code}
use Rattle.champ_trie.specs.Walk.{rows_from}
use Rattle.champ_trie.specs.Bits.{rank}

-- the tests before that of how long undo is don't look at its bound
module _ (most : ℕ) where
  -- the pool, of which undo may keep so many
  abbrev kept : Pool
  kept = record full_history { history = most }

  links-back : links_lead_back kept ≡ true
  unfolding links_lead_back
  links-back = refl

  in-range : rows_in_range kept ≡ true
  unfolding rows_in_range_by
  in-range = refl

  lines : texts_are_lines kept ≡ true
  unfolding texts_are_lines
  lines = refl

  vectors : vectors_stand kept ≡ true
  unfolding vectors_stand are_children is_thick length_at
  vectors = refl

  tries : tries_stand kept ≡ true
  unfolding tries_stand_by are_branches entries_below rows_from text_code rank
  tries = refl

  kinds : roots_are_of_kind kept ≡ true
  unfolding roots_are_of_kind are_roots elements_pass entries_below rows_from rank
  kinds = refl

walked : fold (listed 16 (links_in (forms_in full_history))) [] full_history.roots ≡ range_with_len 0 16
unfolding listed
walked = refl

ordered : order_in full_history ≡ range_with_len 0 16
ordered = order-is_listed (links_in (forms_in full_history)) (λ l. l) (leads-down full_history (links-back MOST_HISTORY)) 16 full_history.roots (roots-low full_history (links-back MOST_HISTORY)) ∙ walked

in-order : rows_in_order full_history ≡ true
unfolding rows_in_order
in-order = ap (λ places. bytes_eq places (range_with_len 0 16)) ordered

pub length-most : length_at (forms_in full_history) 6 14 ≡ 4294967295
unfolding length_at
length-most = refl

fits : undo_fits full_history ≡ true
unfolding undo_fits length_at
fits = refl

too_many : undo_fits long_history ≡ false
unfolding undo_fits length_at
too_many = refl

pub full_history-undamaged : damage full_history ≡ None
full_history-undamaged =
    let most : ℕ = MOST_HISTORY in
    valid-undamaged full_history
    (record { in_range = in-range most; lead_back = links-back most; lines = lines most; vectors = vectors most; tries = tries most; kinds = kinds most; fits = fits; in_order = in-order })

pub long_history-damaged : damage long_history ≡ Some Kind
long_history-damaged =
    let most = long_history.history in
    open-fails present_rules long_history (in-range most) Kind (fails-fits present_rules long_history (record { lead_back = links-back most; lines = lines most; vectors = vectors most; tries = tries most }) (kinds most) too_many)

too_long : vectors_stand overfull_history ≡ false
unfolding vectors_stand are_children is_thick length_at
too_long = refl

-- the other tests after this one are not looked at, so its damage computes without the order
pub overfull_history-damaged : damage overfull_history ≡ Some Vector
unfolding damage_by rows_in_range_by links_lead_back texts_are_lines
overfull_history-damaged = rw too_long refl
