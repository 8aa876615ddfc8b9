use Rattle.std.proofs.Common.{◌≡◌, ℕ, ◌+◌, ◌/◌, List, [], ◌∷◌, length, ap, sym, subst, ◌∙◌, arith}
use Rattle.node_heap.specs.Links.{count}
use Rattle.node_heap.specs.Calls.{Builds}
use Rattle.node_heap.proofs.Frames.{Unchanged-refl}
use Rattle.node_heap.proofs.BuildLemmas.{Builds-then, Builds-more, Builds-held, Answered-Builds, Builds-MakesJust}
use Rattle.state_rows.specs.InHeap.{AreTextsIn}
use Rattle.state_rows.proofs.Filling.{texts-stay}
use Rattle.state_rows.proofs.Room.{room-made}
use Rattle.state_rows.proofs.fill.filled.Goals as goal

pub vector_of_spares-requires : goal.vector_of_spares-requires
vector_of_spares-requires c =
    let did = c.make_cells.ensures in
    let seen : c.as_slice.result.now ≡ c.make_cells.new.links.items = c.as_slice.ensures.value in
    let many : length c.as_slice.result.now ≡ length c.args.texts.items = ap length seen ∙ did.many in
    record {
      graph = did.builds.graph;
      held = λ k. omega (arith, Builds-held did.builds k, ap (count k) seen);
      short = omega (arith, many, c.requires.short);
      few = omega (arith, c.requires.few, c.requires.short, did.builds.total, did.many);
      spare = (omega arith, omega (arith, c.requires.spares.1, did.builds.makes.spare_nodes, did.builds.few_nodes, many));
    }

pub returns : goal.returns
returns c =
    let did = c.make_cells.ensures in
    let made = c.vector_of_spares.ensures in
    let seen : c.as_slice.result.now ≡ c.make_cells.new.links.items = c.as_slice.ensures.value in
    let many : length c.as_slice.result.now ≡ length c.args.texts.items = ap length seen ∙ did.many in
    let both : Builds c.args.heap.now c.vector_of_spares.new.heap [] (c.vector_of_spares.result ∷ []) (length c.args.texts.items + 0) (0 + (length c.as_slice.result.now / 16 + 8)) =
    Builds-then did.builds (subst (λ (ks : List ℕ). Builds c.make_cells.new.heap c.vector_of_spares.new.heap ks (c.vector_of_spares.result ∷ []) 0 (length c.as_slice.result.now / 16 + 8)) seen made.builds) in
    record {
      answered = Answered-Builds (Builds-more (length c.args.texts.items) (length c.args.texts.items / 16 + 8) both (omega arith) (omega (arith, many)));
      made = Builds-MakesJust (Unchanged-refl c.args.heap.now c.requires.graph) both;
      spares = room-made both.makes;
      lines = λ bits. record {
        vector = made.good;
        values = subst (λ (ks : List ℕ). AreTextsIn c.vector_of_spares.new.heap bits ks c.args.texts.items) (sym (made.items ∙ seen)) (texts-stay bits made.builds.extends c.make_cells.new.links.items c.args.texts.items (did.texts bits));
      };
    }
