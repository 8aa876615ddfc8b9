use Rattle.std.proofs.Common.{◌≡◌, ◌<◌, List, length, refl, sym, subst, ◌∙◌, inl, inr}
use Rattle.std.specs.Prelude.{IfSome}
use Rattle.node_heap.specs.Links.{count}
use Rattle.node_heap.specs.Forms.{links_of}
use Rattle.node_heap.specs.Layout.{graph_of}
use Rattle.node_heap.specs.Pairs.{paired, no_pair, own_in, IsOf}
use Rattle.node_heap.specs.declared.pairs.Pair.{Pair}
use Rattle.node_heap.proofs.PairLemmas.{found-read}
use Rattle.node_heap.proofs.pairs.leave_pair.Goals as goal

pub returns-in-None : goal.returns-in-None
returns-in-None g c = inl (record { off = subst (λ (ps : List Pair). count c.args.place (paired ps) ≡ 0) c.as_slice.ensures.value c.in-None.ensures.none; same = refl; all = c.copy_links.ensures })

pub copy_one-requires : goal.copy_one-requires
copy_one-requires g c =
    let r = found-read c.as_slice.result.now c.args.pairs.now.items c.in-Some.index c.args.place c.take_pair-pair.result c.as_slice.ensures.value c.in-Some.ensures.there c.in-Some.ensures.found c.take_pair-pair.ensures.value in
    rw (c.own_of.ensures, c.links.ensures) (subst (λ (q : Pair). IfSome (own_in c.args.place q) (λ i. i < length (links_of (graph_of c.args.table.now.slots c.args.place)))) (sym r.1) (c.requires.inside c.in-Some.index no_pair r.0 r.2))

pub returns-in-Some : goal.returns-in-Some
returns-in-Some g c =
    let r = found-read c.as_slice.result.now c.args.pairs.now.items c.in-Some.index c.args.place c.take_pair-pair.result c.as_slice.ensures.value c.in-Some.ensures.there c.in-Some.ensures.found c.take_pair-pair.ensures.value in
    inr (record {
      index = c.in-Some.index;
      pair = c.take_pair-pair.result;
      inside = r.0;
      found = sym r.1;
      is_of = subst (IsOf c.args.place) (sym r.1) r.2;
      left = c.take_pair-pair.ensures.items;
      own = c.copy_one.ensures ∙ rw (c.own_of.ensures, c.links.ensures) refl;
    })
