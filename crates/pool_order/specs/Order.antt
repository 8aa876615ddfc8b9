-- First-seen order: the links that some roots reach, each once, after those of its row.
use Rattle.std.specs.Prelude.{ℕ, zero, suc, length, List, [], ◌∷◌, ◌++◌, fold, nat_eq, if◌then◌else◌}
use Rattle.std.specs.List.{flat_map, list_any}
use Rattle.node_heap.specs.Links.{Links}
use Rattle.node_heap.specs.Heap.{Heap, links_at}

-- the list with the link at its end, unless it has it already
abbrev pub with_new : List ℕ → ℕ → List ℕ
with_new ks l = if list_any (nat_eq l) ks then ks else ks ++ l ∷ []

-- the list with each of the links put in turn at its end, unless it has it already
abbrev pub with_all_new : List ℕ → List ℕ → List ℕ
with_all_new ks ls = fold with_new ks ls

-- the list with every repeat but the first left out
abbrev pub firsts : List ℕ → List ℕ
firsts ls = with_all_new [] ls

-- the places of each link of the row in turn, then the link itself, so many rows deep
unfoldable pub places : ℕ → Links → ℕ → List ℕ
places zero L l = []
places (suc n) L l = flat_map (places n L) (L l) ++ l ∷ []

-- the places of the roots, with every repeat but the first left out
unfoldable pub order : ℕ → Links → List ℕ → List ℕ
order n L roots = firsts (flat_map (places n L) roots)

-- the order of a heap's rows from these roots
abbrev pub order_of : {T : Type 0} → Heap T → List ℕ → List ℕ
order_of h roots = order (length h.rows) (links_at h) roots

-- The same by a list of what is listed so far, which enters no row twice, and so computes where rows are shared. The `let`
-- waits until it is read: nothing is done below a link that is listed.
unfoldable pub listed : ℕ → Links → List ℕ → ℕ → List ℕ
listed zero L seen l = seen
listed (suc n) L seen l =
    let next : List ℕ = with_new (fold (listed n L) seen (L l)) l in
    if list_any (nat_eq l) seen then seen else next
