use Rattle.std.proofs.Common.{◌≡◌, ℕ, ◌<◌, List, ap, sym, subst, ◌∙◌}
use Rattle.elem_core.specs.declared.codes.TheConstants.{CODE_BITS}
use Rattle.node_heap.specs.Links.{count}
use Rattle.pool_order.specs.Order.{order_of}
use Rattle.pool_text.specs.Pool.{settings_by, pool_at}
use Rattle.pool_text.specs.declared.rules.TheConstants.{MOST_HISTORY}
use Rattle.versions_pool.specs.Loading.{roots_in, AreCells}
use Rattle.versions_pool.proofs.SaysLemmas.{listed-live, own-pool}
use Rattle.versions_pool.proofs.saving.saved_roots.Goals as goal

pub order-requires : goal.order-requires
order-requires g c = record {
  live = λ l some. c.requires.live l (subst (λ (ls : List ℕ). 0 < count l ls) (c.as_slice.ensures.value ∙ c.in_ok-roots.ensures) some);
}

pub texts_are_cells-requires : goal.texts_are_cells-requires
texts_are_cells-requires g c = λ l some. listed-live g.C.CellTexts.bytes_of c.args.heap.now c.args.slots.now.slots c.rows_form_a_graph.ensures c.requires.live l
    (subst (λ (ks : List ℕ). 0 < count l ks) (c.in_ok-listed.ensures.value ∙ ap (order_of c.args.heap.now) (c.as_slice.ensures.value ∙ c.in_ok-roots.ensures)) some)

pub pool_by_texts-requires : goal.pool_by_texts-requires
pool_by_texts-requires g c =
    let h = c.args.heap.now in
    let listed_is : c.in_ok-listed.listed ≡ order_of h (roots_in c.args.slots.now.slots) = c.in_ok-listed.ensures.value ∙ ap (order_of h) (c.as_slice.ensures.value ∙ c.in_ok-roots.ensures) in
    let cells : AreCells g.C.CellTexts.bytes_of h c.args.slots.now.slots = λ k x some row. c.texts_are_cells.ensures k x (subst (λ (ks : List ℕ). 0 < count k ks) (sym listed_is) some) row in
    record {
      order = c.in_ok-listed.ensures.value ∙ ap (order_of h) (c.as_slice.ensures.value ∙ sym c.as_slice-2.ensures.value);
      fits = λ r l root way. c.requires.fits cells r l (subst (λ (ls : List ℕ). 0 < count r ls) (c.as_slice-2.ensures.value ∙ c.in_ok-roots.ensures) root) way;
    }

pub returns : goal.returns
returns g c =
    let h = c.args.heap.now in
    let slots = c.args.slots.now.slots in
    let listed_is : c.in_ok-listed.listed ≡ order_of h (roots_in slots) = c.in_ok-listed.ensures.value ∙ ap (order_of h) (c.as_slice.ensures.value ∙ c.in_ok-roots.ensures) in
    let pool_is : c.in_ok-pool.pool ≡ pool_at g.C.CellTexts.bytes_of h (roots_in slots) (settings_by CODE_BITS MOST_HISTORY) =
    c.in_ok-pool.ensures.value ∙ ap (λ (rs : List ℕ). pool_at g.C.CellTexts.bytes_of h rs (settings_by CODE_BITS MOST_HISTORY)) (c.as_slice-2.ensures.value ∙ c.in_ok-roots.ensures) in
    record {
      names = c.from_vec.ensures ∙ c.in_ok-names.ensures;
      pool = own-pool g.C.CellTexts.bytes_of h (roots_in slots) c.in_ok-pool.pool pool_is;
      cells = λ k x some row. c.texts_are_cells.ensures k x (subst (λ (ks : List ℕ). 0 < count k ks) (sym listed_is) some) row;
    }
