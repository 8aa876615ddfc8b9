use Rattle.std.proofs.Common.{◌≡◌, ◌<◌, ℕ, List, [], ◌∷◌, length, ap, sym, subst, ◌∙◌, arith, length-append}
use Rattle.std.proofs.lemmas.List.{map-id}
use Rattle.std.proofs.lemmas.Iterator.Adapters.{YieldsList-from_vec}
use Rattle.std.proofs.lemmas.Iterator.Consumers.{YieldsList-turn, YieldsList-end}
use Rattle.node_heap.specs.Calls.{Builds}
use Rattle.node_heap.proofs.BuildLemmas.{Builds-more, Builds-refl}
use Rattle.shell_terms.specs.Edit.{Bytes}
use Rattle.state_rows.specs.InHeap.{AreTextsIn}
use Rattle.state_rows.proofs.Filling.{cells-more, texts-more}
use Rattle.state_rows.proofs.fill.make_cells.Goals as goal
use Rattle.state_rows.proofs.fill.make_cells.Goals.{In-Some}

pub loop-text-init : goal.loop-text-init
loop-text-init c = record {
  builds = subst (λ (ks : List ℕ). Builds c.args.heap.now c.args.heap.now [] ks 0 0) (sym c.requires.empty) (Builds-refl c.args.heap.now [] 0 0 c.requires.graph);
  count = ap length c.requires.empty;
  room = c.requires.room;
  texts = λ bits. subst (λ (ks : List ℕ). AreTextsIn c.args.heap.now bits ks []) (sym c.requires.empty) tt;
}

-- there is a text left, and so a spare for it
turn : (c : In-Some) → length c.loop-text.yielded < length c.args.texts.items
turn c =
    let items = c.args.texts.items in
    let gives = c.into_iter-text-iterator.ensures.into_iter_gives in
    (YieldsList-turn (YieldsList-from_vec items gives.0 (gives.1 ∙ c.args.texts.ok.0)) c.loop-text.yielded c.loop-text.text-iterator c.loop-text.yielded_by c.next.result c.next.new.self c.in-Some.text c.in-Some.is c.next.ensures.steps).0

pub cell-link-requires : goal.cell-link-requires
cell-link-requires c =
    let b = c.loop-text.invariant.builds in
    let left = turn (goal.at.cell-link-requires c).In-Some in
    record { spare = omega (arith, c.requires.spares, b.makes.spare_cells, b.few_cells, left); few = omega (arith, c.requires.few, b.total, c.loop-text.invariant.count, left) }

pub push_reserved-requires : goal.push_reserved-requires
push_reserved-requires c =
    omega (arith, c.loop-text.links.ok.0, c.loop-text.invariant.count, c.loop-text.invariant.room, turn (goal.at.push_reserved-requires c).In-Some)

pub loop-text-preserved : goal.loop-text-preserved
loop-text-preserved c =
    let did = c.cell-link.ensures in
    let longer = c.push_reserved.ensures.items in
    let many = length-append c.loop-text.yielded (c.in-Some.text ∷ []) in
    record {
      builds = cells-more c.push_reserved.new.self.items _ longer (omega (arith, many)) c.loop-text.invariant.builds did.adds did.makes did.count did.graph did.extends;
      count = omega (arith, ap length longer, length-append c.loop-text.links.items (c.cell-link.result ∷ []), many, c.loop-text.invariant.count);
      room = omega (arith, c.loop-text.invariant.room, c.push_reserved.ensures.capacity);
      texts = λ bits. texts-more bits c.loop-text.links.items c.push_reserved.new.self.items c.loop-text.yielded longer did.adds did.extends c.is_cells.ensures (c.loop-text.invariant.texts bits);
    }

pub returns : goal.returns
returns c =
    let items = c.args.texts.items in
    let gives = c.into_iter-text-iterator.ensures.into_iter_gives in
    let done = YieldsList-end (YieldsList-from_vec items gives.0 (gives.1 ∙ c.args.texts.ok.0)) c.loop-text.yielded c.loop-text.text-iterator c.loop-text.yielded_by c.next.result c.next.new.self c.in-None.is c.next.ensures.steps in
    let all : c.loop-text.yielded ≡ items = sym (map-id c.loop-text.yielded) ∙ done.0 in
    record {
      builds = Builds-more (length items) 0 c.loop-text.invariant.builds (omega (arith, done.1)) (omega arith);
      many = c.loop-text.invariant.count ∙ done.1;
      texts = λ bits. subst (λ (xs : List Bytes). AreTextsIn c.loop-text.heap bits c.loop-text.links.items xs) all (c.loop-text.invariant.texts bits);
    }
