use Rattle.std.proofs.Common.{◌≡◌, [], ◌∷◌, rules, ap, sym, subst, ◌∙◌, arith}
use Rattle.std.specs.List.{All}
use Rattle.std.specs.Prelude.{IsSome, MatchOption, filter_map}
use Rattle.node_heap.specs.Heap.{row_at}
use Rattle.versions.specs.Rooted.{value_at}
use Rattle.versions.proofs.ListLemmas.{all-rest, row-there, yields-value}
use Rattle.versions.proofs.keys.KeysIterator.next.Goals as goal

pub value-requires : goal.value-requires
value-requires g c =
    let h = c.self.inside.heap.now in
    let e : c.self.inside.links ≡ c.in_ok-link.link ∷ c.next.new.self = search rules in
    row-there (row_at h c.in_ok-link.link) ((subst (All (λ l. IsSome (value_at h l))) e c.self.invariant) 0 c.in_ok-link.link (omega arith))

pub invariant_of-self-2 : goal.invariant_of-self-2
invariant_of-self-2 g c =
    let h = c.self.inside.heap.now in
    let e : c.self.inside.links ≡ c.in_ok-link.link ∷ c.next.new.self = search rules in
    all-rest (λ l. IsSome (value_at h l)) c.in_ok-link.link c.next.new.self (subst (All (λ l. IsSome (value_at h l))) e c.self.invariant)

pub returns-clause-steps : goal.returns-clause-steps
returns-clause-steps g c =
    let h = c.self.inside.heap.now in
    let e : c.self.inside.links ≡ c.in_ok-link.link ∷ c.next.new.self = search rules in
    let rest = filter_map (value_at h) c.next.new.self in
    let some = (subst (All (λ l. IsSome (value_at h l))) e c.self.invariant) 0 c.in_ok-link.link (omega arith) in
    subst (λ s. MatchOption c.value.result ((s ≡ []) × (rest ≡ [])) (λ x. s ≡ x.now ∷ rest)) (sym (ap (filter_map (value_at h)) e) ∙ c.self.view_is)
    (yields-value c.value.result (value_at h c.in_ok-link.link) rest c.value.ensures some)
