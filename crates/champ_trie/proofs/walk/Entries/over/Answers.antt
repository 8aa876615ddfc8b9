use Rattle.std.proofs.Common.{arith, ◌≡◌, ◌+◌, ◌∙◌, ap, sym, subst, ℕ, List, [], ◌++◌, map, Bor}
use Rattle.elem_core.specs.declared.codes.TheConstants.{LEVELS}
use Rattle.node_heap.specs.Heap.{form_at, live_count}
use Rattle.champ_chain.proofs.FrameLemmas.{rows-live}
use Rattle.champ_trie.specs.declared.walk.TheConstants.{LAYERS}
use Rattle.champ_trie.specs.Walk.{rows_below, depth_of, entries_of}
use Rattle.champ_trie.specs.Stack.{IsStack, stacked, next_first, rows_on}
use Rattle.champ_trie.proofs.WalkLemmas.{stack-start, start-order}
use Rattle.champ_trie.proofs.walk.Entries.over.Goals as goal

-- the stack that was made
made : (none new : List (Bor (List ℕ))) (more below : List ℕ) → map (λ r. r.now) new ≡ stacked (map (λ r. r.now) none) more → none ≡ [] → more ≡ below → map (λ r. r.now) new ≡ stacked [] below
made none new more below is empty same = is ∙ ap (λ (s : List (Bor (List ℕ))). stacked (map (λ r. r.now) s) more) empty ∙ ap (stacked []) same

pub invariant_of-result : goal.invariant_of-result
invariant_of-result g c =
    subst (IsStack (form_at c.args.heap.now) LAYERS)
    (sym (made c.new-rows.result.items c.push_some.new.rows.items c.parts_of.result.1.now (rows_below (form_at c.args.heap.now c.args.root)) c.push_some.ensures c.new-rows.ensures c.parts_of.ensures.below))
    (stack-start (form_at c.args.heap.now) LAYERS LEVELS (rows_below (form_at c.args.heap.now c.args.root)) (omega arith) c.requires.below)

pub returns-clause-walk : goal.returns-clause-walk
returns-clause-walk g c =
    let h = c.args.heap.now in
    let l = c.args.root in
    ap (λ s. c.parts_of.result.0.now ++ entries_of (form_at h) (rows_on h (next_first s)))
    (made c.new-rows.result.items c.push_some.new.rows.items c.parts_of.result.1.now (rows_below (form_at h l)) c.push_some.ensures c.new-rows.ensures c.parts_of.ensures.below)
    ∙ ap (λ xs. xs ++ entries_of (form_at h) (rows_on h (next_first (stacked [] (rows_below (form_at h l)))))) c.parts_of.ensures.own
    ∙ ap (entries_of (form_at h)) (start-order (form_at h) (live_count h) (λ next es rows. rows-live h c.parts_of.ensures.graph es next rows) LEVELS (depth_of h) l (omega arith) c.requires.below)
