use Rattle.std.proofs.Common.{arith, ◌≡◌, ◌≤◌, ◌∙◌, ap, sym, subst, refl, ℕ, List, [], ◌∷◌, ◌++◌, length, map, Bor}
use Rattle.std.proofs.lemmas.List.{map_push, length-map}
use Rattle.node_heap.specs.Forms.{Forms}
use Rattle.node_heap.specs.Heap.{Heap, form_at, live_count, IsGraph}
use Rattle.champ_chain.proofs.FrameLemmas.{rows-live}
use Rattle.champ_trie.specs.Walk.{rows_below, depth_of}
use Rattle.champ_trie.specs.Stack.{IsStack, stacked, next_first, rows_on}
use Rattle.champ_trie.specs.declared.walk.TheConstants.{LAYERS}
use Rattle.champ_trie.proofs.WalkLemmas.{Last, stack-last, Goes, stack-goes, stack-order}
use Rattle.champ_trie.proofs.walk.next_row.Goals as goal

-- the stack with its last list named
seen : (old new : List (Bor (List ℕ))) (x : Bor (List ℕ)) (rows : List ℕ) → old ≡ new ++ x ∷ [] → x.now ≡ rows → map (λ r. r.now) old ≡ map (λ r. r.now) new ++ rows ∷ []
seen old new x rows is last = ap (map (λ r. r.now)) is ∙ map_push (λ (r : Bor (List ℕ)). r.now) new x ∙ ap (λ xs. map (λ r. r.now) new ++ xs ∷ []) last

goes : {K : Type 0} (F : Forms K) (old new : List (Bor (List ℕ))) (x : Bor (List ℕ)) (l : ℕ) (ls : List ℕ) → old ≡ new ++ x ∷ [] → x.now ≡ l ∷ ls → IsStack F LAYERS (map (λ r. r.now) old) → Goes F LAYERS (map (λ r. r.now) new) l ls
goes F old new x l ls is last stack = stack-goes F LAYERS (map (λ r. r.now) new) l ls (subst (IsStack F LAYERS) (seen old new x (l ∷ ls) is last) stack)

-- the list that was taken off is not empty
some : {K : Type 0} (F : Forms K) (old new : List (Bor (List ℕ))) (x : Bor (List ℕ)) → old ≡ new ++ x ∷ [] → IsStack F LAYERS (map (λ r. r.now) old) → 1 ≤ length x.now
some F old new x is stack = (let last : Last F LAYERS (map (λ r. r.now) new) x.now = stack-last F LAYERS (map (λ r. r.now) new) x.now (subst (IsStack F LAYERS) (seen old new x x.now is refl) stack) in last.some)

order : {T : Type 0} (h : Heap T) → IsGraph h → (old new more last : List (Bor (List ℕ))) (x : Bor (List ℕ)) (l : ℕ) (ls below : List ℕ) → old ≡ new ++ x ∷ [] → x.now ≡ l ∷ ls → IsStack (form_at h) LAYERS (map (λ r. r.now) old)
    → map (λ r. r.now) more ≡ stacked (map (λ r. r.now) new) ls → below ≡ rows_below (form_at h l) → map (λ r. r.now) last ≡ stacked (map (λ r. r.now) more) below
    → rows_on h (next_first (map (λ r. r.now) old)) ≡ l ∷ rows_on h (next_first (map (λ r. r.now) last))
order h graph old new more last x l ls below is split stack first is_below second =
    ap (λ s. rows_on h (next_first s)) (seen old new x (l ∷ ls) is split)
    ∙ stack-order (form_at h) (live_count h) (λ next es rows. rows-live h graph es next rows) LAYERS (depth_of h) (map (λ r. r.now) new) l ls (omega arith) (goes (form_at h) old new x l ls is split stack)
    ∙ ap (λ s. l ∷ rows_on h (next_first s)) (sym (second ∙ ap (stacked (map (λ r. r.now) more)) is_below ∙ ap (λ s. stacked s (rows_below (form_at h l))) first))

pub unwrap-requires : goal.unwrap-requires
unwrap-requires g c = c.split_first.ensures.variant.1 (some (form_at c.args.heap.now) c.args.rows.now.items c.pop.new.self.items c.in_ok-pop.field-0 c.in_ok-pop.ensures.items c.requires)

pub push_some-requires : goal.push_some-requires
push_some-requires g c = λ more.
    let at = rw c.unwrap.ensures at c.split_first.ensures.cases in
    let went = goes (form_at c.args.heap.now) c.args.rows.now.items c.pop.new.self.items c.in_ok-pop.field-0 c.unwrap.result.0.now c.unwrap.result.1.now c.in_ok-pop.ensures.items at.0 c.requires in
    omega (arith, went.room more, length-map c.pop.new.self.items (λ (r : Bor (List ℕ)). r.now))

pub parts_of-requires : goal.parts_of-requires
parts_of-requires g c =
    let at = rw c.unwrap.ensures at c.split_first.ensures.cases in
    (goes (form_at c.args.heap.now) c.args.rows.now.items c.pop.new.self.items c.in_ok-pop.field-0 c.unwrap.result.0.now c.unwrap.result.1.now c.in_ok-pop.ensures.items at.0 c.requires).row

pub push_some-requires-2 : goal.push_some-requires-2
push_some-requires-2 g c = λ more.
    let at = rw c.unwrap.ensures at c.split_first.ensures.cases in
    let went = goes (form_at c.args.heap.now) c.args.rows.now.items c.pop.new.self.items c.in_ok-pop.field-0 c.unwrap.result.0.now c.unwrap.result.1.now c.in_ok-pop.ensures.items at.0 c.requires in
    let size : List (List ℕ) → ℕ = length in
    omega (arith, went.room_below (omega (arith, more, ap length c.parts_of.ensures.below)), length-map c.push_some.new.rows.items (λ (r : Bor (List ℕ)). r.now), ap size c.push_some.ensures)

pub returns-clause-stack : goal.returns-clause-stack
returns-clause-stack g c =
    let at = rw c.unwrap.ensures at c.split_first.ensures.cases in
    let went = goes (form_at c.args.heap.now) c.args.rows.now.items c.pop.new.self.items c.in_ok-pop.field-0 c.unwrap.result.0.now c.unwrap.result.1.now c.in_ok-pop.ensures.items at.0 c.requires in
    subst (IsStack (form_at c.args.heap.now) LAYERS)
    (sym (c.push_some-2.ensures ∙ ap (stacked (map (λ r. r.now) c.push_some.new.rows.items)) c.parts_of.ensures.below ∙ ap (λ s. stacked s (rows_below (form_at c.args.heap.now c.unwrap.result.0.now))) c.push_some.ensures)) went.left

pub returns-clause-row : goal.returns-clause-row
returns-clause-row g c =
    let at = rw c.unwrap.ensures at c.split_first.ensures.cases in (
      c.unwrap.result.0.now,
      c.parts_of.ensures.own,
      order c.args.heap.now c.parts_of.ensures.graph c.args.rows.now.items c.pop.new.self.items c.push_some.new.rows.items c.push_some-2.new.rows.items c.in_ok-pop.field-0 c.unwrap.result.0.now c.unwrap.result.1.now c.parts_of.result.1.now
          c.in_ok-pop.ensures.items at.0 c.requires c.push_some.ensures c.parts_of.ensures.below c.push_some-2.ensures,
    )
