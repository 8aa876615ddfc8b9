use Rattle.std.proofs.Common.{◌≡◌, ◌+◌, ℕ, ap, sym, subst, ◌∙◌, arith}
use Rattle.std.specs.Prelude.{remove}
use Rattle.node_heap.specs.Links.{count, without}
use Rattle.node_heap.specs.Pairs.{common, common_at}
use Rattle.node_heap.specs.declared.pairs.Pair.{Pair}
use Rattle.node_heap.proofs.PairLemmas.{common-rows, sharing-rows, common-removed, sharing-removed}
use Rattle.node_heap.proofs.pairs.part.Goals as goal

pub returns-clause-sharing : goal.returns-clause-sharing
returns-clause-sharing g c =
    let slots = c.args.table.now.slots in
    let pairs = c.args.pairs.now.items in
    rw c.remove-pair.ensures.items
    (sharing-rows slots c.add_owners.new.table.slots (remove pairs c.args.index) c.add_owners.ensures.rows (sharing-removed slots pairs c.args.index c.remove-pair.result c.requires.index c.requires.sharing))

pub returns-clause-alike : goal.returns-clause-alike
returns-clause-alike g c =
    let slots = c.args.table.now.slots in
    let new = c.add_owners.new.table.slots in
    let pairs = c.args.pairs.now.items in
    let pair = c.remove-pair.result in
    let rest = remove pairs c.args.index in
    let links : c.as_slice.result.now ≡ common slots pair = c.as_slice.ensures.value ∙ c.take_out.ensures ∙ ap (without _) c.row_links-links.ensures ∙ ap (λ (q : Pair). common slots q) c.pair.view_is in
    let gone : (k : ℕ) → common_at slots rest k + count k (common slots pair) ≡ common_at slots pairs k = λ k. subst (λ (q : Pair). common_at slots rest k + count k (common slots q) ≡ common_at slots pairs k) (sym c.remove-pair.ensures.value) (common-removed slots pairs c.args.index pair c.requires.index k) in
    rw c.remove-pair.ensures.items
    (record {
      rows = c.add_owners.ensures.rows;
      owners = λ k. omega (arith, c.add_owners.ensures.owners k, ap (count k) links, gone k, common-rows slots new rest c.add_owners.ensures.rows k);
      room = c.add_owners.ensures.room;
    })
