use Rattle.std.proofs.Common.{◌≡◌, ℕ, ◌∙◌, ap, sym, List, [], ◌∷◌, ◌++◌, map, append_assoc, append-nil, Bor}
use Rattle.std.proofs.lemmas.List.{map-append}
use Rattle.std.proofs.lemmas.Iterator.Adapters.{YieldsList-from_rev_slice}
use Rattle.std.proofs.lemmas.Iterator.Consumers.{YieldsList-end}
use Rattle.pool_carry.proofs.entries.add_reversed.Goals as goal

-- one place more
one-more : (old now next : List ℕ) (done : List (Bor ℕ)) (place : Bor ℕ) → now ≡ old ++ map (λ (p : Bor ℕ). p.now) done → next ≡ now ++ place.now ∷ [] → next ≡ old ++ map (λ (p : Bor ℕ). p.now) (done ++ place ∷ [])
one-more old now next done place so_far pushed =
    pushed
    ∙ ap (λ ks. ks ++ place.now ∷ []) so_far
    ∙ append_assoc old (map (λ (p : Bor ℕ). p.now) done) (place.now ∷ [])
    ∙ ap (λ ks. old ++ ks) (sym (map-append (λ (p : Bor ℕ). p.now) done (place ∷ [])))

pub loop-place-init : goal.loop-place-init
loop-place-init c = sym (append-nil c.args.waiting.now.items)

pub loop-place-preserved : goal.loop-place-preserved
loop-place-preserved c =
    one-more c.args.waiting.now.items c.loop-place.waiting.items c.push.new.self.items c.loop-place.yielded c.in-Some.place c.loop-place.invariant c.in_ok-push.ensures.items

pub returns : goal.returns
returns c =
    let all = YieldsList-end (YieldsList-from_rev_slice c.args.places.now cc) c.loop-place.yielded _ c.loop-place.yielded_by _ _ c.in-None.is c.next.ensures.steps in
    c.loop-place.invariant ∙ ap (λ ks. c.args.waiting.now.items ++ ks) all.0
