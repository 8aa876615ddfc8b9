use Rattle.std.proofs.Common.{ℕ, List, length, get_or, ap, sym, subst, ◌∙◌, arith}
use Rattle.std.specs.Prelude.{sum}
use Rattle.pool_load.specs.Loads.{Loads, AreRowsLoaded, AreValuedByPlace}
use Rattle.versions_pool.specs.Saved.{rise}
use Rattle.versions_pool.specs.Loading.{AreLoadedWith}
use Rattle.versions_pool.proofs.LoadLemmas.{loaded-with}
use Rattle.versions_pool.proofs.loading.loaded_roots.Goals as goal

pub load_roots_by-requires-clause-few : goal.load_roots_by-requires-clause-few
load_roots_by-requires-clause-few g c = omega (arith, ap (λ (hs : List ℕ). sum hs) c.new-heap.ensures.holds)

pub load_roots_by-requires-clause-few_roots : goal.load_roots_by-requires-clause-few_roots
load_roots_by-requires-clause-few_roots g c = omega (arith, c.requires.many, c.requires.few)

pub slots_of-requires-clause-rise : goal.slots_of-requires-clause-rise
slots_of-requires-clause-rise g c = ap rise c.as_slice.ensures ∙ c.requires.rise

pub slots_of-requires-clause-many : goal.slots_of-requires-clause-many
slots_of-requires-clause-many g c = ap length c.as_slice.ensures ∙ c.requires.many ∙ sym (ap length c.as_slice-2.ensures.value ∙ c.in_ok-roots.ensures.roots)

pub returns : goal.returns
returns g c =
    let text = g.C.CellValues.bytes_of in
    let value = g.C.CellValues.value_at c.args.values.now in
    subst (λ (ns : List ℕ). AreLoadedWith text value ns c.args.checked c.load_roots_by.new.heap c.in_ok-slots.slots.slots) c.as_slice.ensures
    (loaded-with text c.new-heap.result c.load_roots_by.new.heap (λ k. ap (λ (hs : List ℕ). get_or hs k 0) c.new-heap.ensures.holds) (ap (λ (hs : List ℕ). sum hs) c.new-heap.ensures.holds)
    c.as_slice.result.now c.as_slice-2.result.now c.args.checked c.in_ok-slots.slots.slots
    (record { rise = ap rise c.as_slice.ensures ∙ c.requires.rise; many = ap length c.as_slice.ensures ∙ c.requires.many; few = omega (arith, c.requires.few, ap length c.as_slice.ensures) })
    (subst (λ (ls : List ℕ). Loads c.new-heap.result c.load_roots_by.new.heap ls c.args.checked) (sym c.as_slice-2.ensures.value) c.in_ok-roots.ensures.loads)
    (subst (λ (ls : List ℕ). AreRowsLoaded text c.load_roots_by.new.heap ls c.args.checked) (sym c.as_slice-2.ensures.value) c.in_ok-roots.ensures.loaded)
    (ap length c.as_slice-2.ensures.value ∙ c.in_ok-roots.ensures.roots) c.in_ok-slots.ensures
    value (subst (λ (ls : List ℕ). AreValuedByPlace text value c.load_roots_by.new.heap ls) (sym c.as_slice-2.ensures.value) c.in_ok-roots.ensures.valued))
