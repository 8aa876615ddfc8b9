use Rattle.std.proofs.Common.{◌≡◌, ◌∷◌, rules, ap, sym, subst, ◌∙◌, arith}
use Rattle.std.specs.List.{All, cons_option}
use Rattle.std.specs.Prelude.{IsSome, filter_map}
use Rattle.versions.specs.Pieces.{entry_at}
use Rattle.versions.proofs.ListLemmas.{all-rest}
use Rattle.versions.proofs.entries.EntriesIterator.next.Goals as goal

pub entry_of-requires : goal.entry_of-requires
entry_of-requires g c =
    let h = c.self.inside.heap.now in
    let e : c.self.inside.pairs ≡ c.in_ok-pair.pair ∷ c.next.new.self = search rules in
    (subst (All (λ l. IsSome (entry_at h l))) e c.self.invariant) 0 c.in_ok-pair.pair (omega arith)

pub invariant_of-self-2 : goal.invariant_of-self-2
invariant_of-self-2 g c =
    let h = c.self.inside.heap.now in
    let e : c.self.inside.pairs ≡ c.in_ok-pair.pair ∷ c.next.new.self = search rules in
    all-rest (λ l. IsSome (entry_at h l)) c.in_ok-pair.pair c.next.new.self (subst (All (λ l. IsSome (entry_at h l))) e c.self.invariant)

pub returns-clause-steps : goal.returns-clause-steps
returns-clause-steps g c =
    let h = c.self.inside.heap.now in
    let e : c.self.inside.pairs ≡ c.in_ok-pair.pair ∷ c.next.new.self = search rules in
    sym (sym (ap (filter_map (entry_at h)) e) ∙ c.self.view_is) ∙ ap (λ o. cons_option o (filter_map (entry_at h) c.next.new.self)) c.entry_of.ensures
