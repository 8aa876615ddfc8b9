use Rattle.std.proofs.Common.{◌≡◌, ◌<◌, ℕ, List, [], ◌∷◌, take, drop, insert, ap, sym, ◌∙◌, arith, length, Some}
use Rattle.std.proofs.lemmas.List.{append_assoc}
use Rattle.node_heap.specs.Heap.{row_at, links_at}
use Rattle.node_heap.specs.Forms.{node}
use Rattle.node_heap.proofs.CallerLemmas.{node-long}
use Rattle.rrb_core.specs.Edit.{links_with}
use Rattle.rrb_core.proofs.Lists.{set-parts}
use Rattle.rrb_core.proofs.rows.node_with.Goals as goal

-- a link put in, as the links around it
put-parts : (ks : List ℕ) (i x : ℕ) → insert ks i x ≡ links_with ks i x i
put-parts ks i x = sym (append_assoc (take i ks) (x ∷ []) (drop i ks))

pub with_inserted-requires-clause-node : goal.with_inserted-requires-clause-node
with_inserted-requires-clause-node g c = node-long (row_at c.args.heap.now c.args.link) 0 (omega (arith, c.if-old-gt0.true, ap length c.links-old.ensures.links))

pub with_inserted-requires-clause-room : goal.with_inserted-requires-clause-room
with_inserted-requires-clause-room g c = omega (arith, c.requires.few, c.requires.keep, c.if-keep-skip.true)

pub returns-then-old-gt0-clause-row : goal.returns-then-old-gt0-clause-row
returns-then-old-gt0-clause-row g c =
    let ks = links_at c.args.heap.now c.args.link in
    c.with_inserted.ensures.adds.here ∙ ap (λ xs. Some (node c.args.head xs)) (put-parts ks c.args.keep c.args.middle ∙ ap (links_with ks c.args.keep c.args.middle) c.if-keep-skip.true)

pub returns-then-keep-skip-2-clause-row : goal.returns-then-keep-skip-2-clause-row
returns-then-keep-skip-2-clause-row g c =
    let ks = links_at c.args.heap.now c.args.link in
    let within : c.args.keep < length ks = omega (arith, c.if-keep-skip-2.true, c.requires.skip) in
    c.with_replaced.ensures.adds.here ∙ ap (λ xs. Some (node c.args.head xs)) (set-parts ks c.args.keep c.args.middle within ∙ ap (links_with ks c.args.keep c.args.middle) c.if-keep-skip-2.true)
