-- An edit that begins at a row down the way of its key's code is one of the whole map, where each row above has one owner.
use Rattle.std.proofs.Common.{◌≡◌, ℕ, zero, suc, ◌+◌, ◌*◌, ◌<◌, ◌≤◌, List, length, get_or, refl, ap, sym, subst, ◌∙◌, arith, IsSome, option_map, true, false, inl, inr}
use Rattle.std.specs.declared.cmp.Ordering.{Ordering}
use Rattle.std.specs.declared.cmp.Ordering.TheVariants.{Equal}
use Rattle.std.specs.Cmp.{IsTotalOrder}
use Rattle.std.proofs.lemmas.Bool.{cases_Bool}
use Rattle.std.proofs.lemmas.Bool.Decides.{nat_tests}
use Rattle.std.proofs.lemmas.List.{set-get_or}
use Rattle.elem_core.specs.Codes.{digit_at}
use Rattle.elem_core.specs.declared.codes.TheConstants.{DEEPEST}
use Rattle.node_heap.specs.Links.{count, HasLink, Reaches, here}
use Rattle.node_heap.specs.Forms.{links_of, form_of}
use Rattle.node_heap.specs.Heap.{Heap, row_at, links_at, holds_at, owners_at, one_at, IsGraph}
use Rattle.node_heap.specs.Calls.{KeepsBelow, Makes}
use Rattle.node_heap.specs.InPlace.{child_at, other_at}
use Rattle.node_heap.specs.declared.owner.Owner.{Owner}
use Rattle.node_heap.specs.Owner.{owned}
use Rattle.node_heap.proofs.CallerLemmas.{IsOwned, Makes-refl, Reaches-then, OwnsChild, owns-child, child-linked}
use Rattle.champ_chain.specs.Entry.{Entry, link_with}
use Rattle.champ_trie.specs.Trie.{part, code_by}
use Rattle.champ_trie.specs.Reach.{alike_in}
use Rattle.champ_trie.proofs.CallerLemmas.{part-alike}
use Rattle.edit_trie.specs.Way.{StepsTo, IsSoleWay}
use Rattle.edit_trie.specs.declared.way.Reached.{Reached}
use Rattle.edit_trie.specs.Walk.{CanEditBelow, HasPair, OwnsIn, PutsEntryIn}
use Rattle.edit_trie.proofs.RootLemmas.{changes-none}
use Rattle.edit_trie.proofs.StepLemmas.{AtRow, at-row, part-link, OwnsNext, owns-next, can-below}
use Rattle.edit_trie.proofs.EditLemmas.{pair-below, owns-node, apart-below, puts-node}

itself : (x : ℕ) → other_at x x ≡ 0
itself x = grind (arith, nat_tests)

-- a child with one owner is its row's own already
owns-itself : {T : Type 0} (h : Heap T) (row i : ℕ) → IsGraph h → i < length (links_at h row) → owners_at h (child_at h row i) ≡ 1 → OwnsChild h h row i (child_at h row i)
owns-itself h row i graph inside one =
    owns-child inside (λ _. one, λ _. refl) refl one (λ other. absurd (other refl)) refl (sym (set-get_or (links_at h row) i 0)) (λ k other live. refl) (λ k other apart. refl)
    (λ k. subst (λ z. owners_at h k + one_at (child_at h row i) k ≡ owners_at h k + (one_at (child_at h row i) k + z * count k (links_at h (child_at h row i)))) (sym (itself (child_at h row i))) (omega arith))
    (changes-none row h 1 graph) (subst (Makes h h 0) (sym (itself (child_at h row i))) (Makes-refl h graph))

-- the way stays where all below the root does, and no row of it gains an owner
pub way-stays : {T : Type 0} (old new : Heap T) (root c : ℕ) → IsGraph old → KeepsBelow old new root → ((k : ℕ) → IsSome (row_at old k) → owners_at new k ≡ owners_at old k)
    → (n last : ℕ) → IsSoleWay old root c n last → IsSoleWay new root c n last × Reaches (links_at old) root last
unfolding IsSoleWay
way-stays old new root c graph keeps owners zero last way = (way, subst (Reaches (links_at old) root) way (here root))
way-stays old new root c graph keeps owners (suc n) last way =
    let row = way.0 in
    let i = way.1 in
    let step = way.3 in
    let up = way-stays old new root c graph keeps owners n row way.2 in
    let same : row_at new row ≡ row_at old row = keeps row up.1 in
    let child : child_at new row i ≡ child_at old row i = ap (λ r. get_or (links_of r) i 0) same in
    let linked : HasLink (links_at old) row (child_at old row i) = child-linked old row i step.inside in
    let steps : StepsTo new n row c i = record {
      spot = λ d e m ls was. step.spot d e m ls (record { row = sym (ap (option_map form_of) same) ∙ was.row; sets = was.sets });
      inside = omega (arith, step.inside, ap (λ r. length (links_of r)) same);
      sole = ap (owners_at new) child ∙ owners (child_at old row i) (graph.closed row (child_at old row i) linked) ∙ step.sole;
    } in
    ((row, i, up.0, steps, way.4 ∙ sym child), subst (Reaches (links_at old) root) (sym way.4) (Reaches-then (links_at old) root row (child_at old row i) up.1 linked))

-- a root that has one owner already is its owner's own, with the way below it
pub way-owned : {T : Type 0} {owner : Owner} {old mid : Heap T} {r : ℕ} (own : IsOwned owner old mid r) (c n last : ℕ) → owners_at old (owned old owner) ≡ 1 → IsSoleWay old (owned old owner) c n last → IsSoleWay mid r c n last
way-owned {owner = owner} {old = old} {mid = mid} {r = r} own c n last one way =
    subst (λ x. IsSoleWay mid x c n last) (sym same) ((way-stays old mid (owned old owner) c own.graph own.below (λ k live. owners k) n last way).0)
  where
    same : r ≡ owned old owner
    same = own.same.1 one

    owners : (k : ℕ) → owners_at mid k ≡ owners_at old k
    owners k =
        let moved = subst (λ x. owners_at mid k + one_at (owned old owner) k ≡ owners_at old k + (one_at x k + other_at (owned old owner) x * count k (links_at old (owned old owner)))) same (own.owners k) in
        let whole = subst (λ z. owners_at mid k + one_at (owned old owner) k ≡ owners_at old k + (one_at (owned old owner) k + z * count k (links_at old (owned old owner)))) (itself (owned old owner)) moved in
        omega (arith, whole)

-- and from there on there is always a way of no rows
pub way-none : {T : Type 0} (h : Heap T) (root c n row : ℕ) → row ≡ root → n ≡ 0 → IsSoleWay h root c n row
unfolding IsSoleWay
way-none h root c n row is none = subst (λ m. IsSoleWay h root c m row) (sym none) (sym is)

-- an edit begins at the row down the way where each above it has one owner, and else at the root
pub way-begun : {T : Type 0} {owner : Owner} {old mid : Heap T} {r first : ℕ} {way from : Reached} (c : ℕ) → IsOwned owner old mid r → first ≡ owned old owner → (way.sole ≡ true → (owners_at old first ≡ 1) × IsSoleWay old first c way.depth way.row)
    → (way.sole ≡ true → from ≡ way) → (way.sole ≡ false → (from.row ≡ r) × (from.depth ≡ 0)) → IsSoleWay mid r c from.depth from.row
way-begun {owner = owner} {old = old} {mid = mid} {r = r} {first = first} {way = way} {from = from} c own is was same top = elim (cases_Bool way.sole) as (λ _. IsSoleWay mid r c from.depth from.row) [
  | inl sole ↦
      let there = was sole in
      let one : owners_at old (owned old owner) ≡ 1 = subst (λ l. owners_at old l ≡ 1) is there.0 in
      let path : IsSoleWay old (owned old owner) c way.depth way.row = subst (λ l. IsSoleWay old l c way.depth way.row) is there.1 in
      subst (λ (w : Reached). IsSoleWay mid r c w.depth w.row) (sym (same sole)) (way-owned own c way.depth way.row one path)
  | inr shared ↦ way-none mid r c from.depth from.row (top shared).0 (top shared).1
]

-- what is done at a row down the way is done at the root
pub record Lifts {T : Type 0} (cmp : T → T → Ordering) (code : T → ℕ) (h : Heap T) (root c : ℕ) (E : List (Entry T)) (key : T) (depth row : ℕ) : Type 0 where
  pub left : ℕ
  pub entries : List (Entry T)
  pub less : left ≤ DEEPEST
  pub can : CanEditBelow cmp code h left depth row c entries
  pub link : link_with cmp key entries ≡ link_with cmp key E
  pub alike : alike_in code c entries ≡ alike_in code c E
  pub pair : (x : Entry T) → HasPair cmp h E key x → HasPair cmp h entries key x
  pub apart : (l : ℕ) → 0 < holds_at h l → ¬ Reaches (links_at h) l root → ¬ Reaches (links_at h) l row
  pub owns : (x : Entry T) → HasPair cmp h E key x → (new : Heap T) (r : ℕ) → OwnsIn cmp code h new left depth row c entries key x r → OwnsIn cmp code h new DEEPEST 0 root c E key x r
  pub puts : (l : ℕ) → 0 < holds_at h l → ¬ Reaches (links_at h) l root → (new : Heap T) → PutsEntryIn cmp code h new left depth row c entries key l → PutsEntryIn cmp code h new DEEPEST 0 root c E key l

module _ {T : Type 0} {cmp : T → T → Ordering} {code_of : T → ℕ} (o : IsTotalOrder cmp) (equal : (j k : T) → cmp j k ≡ Equal → code_of j ≡ code_of k) (bits : ℕ) {h : Heap T} {root c : ℕ} {E : List (Entry T)} (key : T) (is_code : c ≡ code_by code_of bits key)
    (can : CanEditBelow cmp (code_by code_of bits) h DEEPEST 0 root c E) where
  abbrev code : T → ℕ
  code = code_by code_of bits

  one-down : (n row i : ℕ) → n < DEEPEST → Lifts cmp (code_by code_of bits) h root c E key n row → StepsTo h n row c i → Lifts cmp (code_by code_of bits) h root c E key (n + 1) (child_at h row i)
  one-down n row i few up step = record {
    left = s.deeper.m;
    entries = part cmp code n (digit_at c n) up.entries;
    less = omega (arith, up.less, s.deeper.is);
    can = can-below a s;
    link = part-link a ∙ up.link;
    alike = part-alike cmp code n c up.entries ∙ up.alike;
    pair = λ x p. pair-below a o (up.pair x p) s;
    apart = λ l held off. apart-below a l s held (up.apart l held off);
    owns = λ x p new r did. up.owns x p new r (owns-node a o (up.pair x p) s new r did);
    puts = λ l held off new did. up.puts l held off new (puts-node a l s held (up.apart l held off) new did);
  }
    where
      a : AtRow cmp code h up.left n row c up.entries key
      a = at-row cmp code_of bits equal is_code up.can

      s : OwnsNext a h i (child_at h row i)
      s = owns-next a (step.spot n a.entries a.nodes a.links a.is) few (owns-itself h row i up.can.graph step.inside step.sole)

  pub lifts : (n last : ℕ) → n ≤ DEEPEST → IsSoleWay h root c n last → Lifts cmp (code_by code_of bits) h root c E key n last
  unfolding IsSoleWay
  lifts zero last few way =
      subst (Lifts cmp code h root c E key 0) way
      (record { left = DEEPEST; entries = E; less = omega arith; can = can; link = refl; alike = refl; pair = λ x p. p; apart = λ l held off. off; owns = λ x p new r did. did; puts = λ l held off new did. did })
  lifts (suc n) last few way =
      let next : n + 1 ≡ suc n = omega arith in
      let below = one-down n way.0 way.1 (omega (arith, few)) (lifts n way.0 (omega (arith, few)) way.2) way.3 in
      subst (Lifts cmp code h root c E key (suc n)) (sym way.4) (subst (λ m. Lifts cmp code h root c E key m (child_at h way.0 way.1)) next below)
