use Rattle.std.proofs.Common.{◌≤◌, ◌<◌, ℕ, List, refl, ap, arith, length}
use Rattle.std.proofs.lemmas.List.Edits.{length-remove}
use Rattle.node_heap.specs.Links.{count, came, without}
use Rattle.node_heap.specs.Heap.{links_at, holds_at}
use Rattle.node_heap.proofs.CallerLemmas.{count-one, test_same}
use Rattle.champ_trie.proofs.TurnLemmas.{if-known}
use Rattle.champ_trie.proofs.turn.Turn.make.Given.{Over}
use Rattle.champ_trie.proofs.turn.Turn.make.Goals as goal
use Rattle.champ_trie.proofs.turn.Turn.make.Goals.{In-Some}

-- the links of the row that it is made of
abbrev links : (g : Over) (c : In-Some g) → List ℕ
links g c = links_at c.args.heap.now c.args.link

-- where the link comes in
fits : (g : Over) (c : In-Some g) → (c.in-Some.index ≤ length (without c.args.self.out (links g c))) × (length (without c.args.self.out (links g c)) < 32)
fits g c = if-known (λ i. (i.0 ≤ length (without c.args.self.out (links g c))) × (length (without c.args.self.out (links g c)) < 32)) c.in-Some.is c.requires.fits

-- it is held
held : (g : Over) (c : In-Some g) → 0 < holds_at c.args.heap.now c.in-Some.new
held g c = omega (arith, c.requires.held c.in-Some.new, ap (λ o. count c.in-Some.new (came o)) c.in-Some.is, count-one c.in-Some.new c.in-Some.new, test_same c.in-Some.new c.in-Some.new refl)

pub with_turned-requires-clause-out : goal.with_turned-requires-clause-out
with_turned-requires-clause-out g c = if-known (λ i. i < length (links_at c.args.heap.now c.args.link)) c.in-Some-out.is c.requires.out

pub with_turned-requires-clause-index : goal.with_turned-requires-clause-index
with_turned-requires-clause-index g c =
    let ls = links_at c.args.heap.now c.args.link in
    let out = if-known (λ i. i < length ls) c.in-Some-out.is c.requires.out in
    omega (arith, (fits g (goal.at.with_turned-requires-clause-index g c).In-Some).0, ap (λ o. length (without o ls)) c.in-Some-out.is, length-remove ls c.in-Some-out.out out)

pub with_turned-requires-clause-held : goal.with_turned-requires-clause-held
with_turned-requires-clause-held g c = held g (goal.at.with_turned-requires-clause-held g c).In-Some

pub with_inserted-requires-clause-index : goal.with_inserted-requires-clause-index
with_inserted-requires-clause-index g c =
    omega (arith, (fits g (goal.at.with_inserted-requires-clause-index g c).In-Some).0, ap (λ o. length (without o (links_at c.args.heap.now c.args.link))) c.in-None-out.is)

pub with_inserted-requires-clause-room : goal.with_inserted-requires-clause-room
with_inserted-requires-clause-room g c =
    omega (arith, (fits g (goal.at.with_inserted-requires-clause-room g c).In-Some).1, ap (λ o. length (without o (links_at c.args.heap.now c.args.link))) c.in-None-out.is)

pub with_inserted-requires-clause-held : goal.with_inserted-requires-clause-held
with_inserted-requires-clause-held g c = held g (goal.at.with_inserted-requires-clause-held g c).In-Some

pub with_removed-requires-clause-index : goal.with_removed-requires-clause-index
with_removed-requires-clause-index g c = if-known (λ i. i < length (links_at c.args.heap.now c.args.link)) c.in-Some-out-2.is c.requires.out

pub returns-in-Some-out-clause-row : goal.returns-in-Some-out-clause-row
returns-in-Some-out-clause-row g c = rw (c.in-Some-out.is, c.in-Some.is) c.with_turned.ensures.adds.here

pub returns-in-Some-out-clause-builds : goal.returns-in-Some-out-clause-builds
returns-in-Some-out-clause-builds g c = rw c.in-Some.is c.with_turned.ensures.adds.builds

pub returns-in-None-out-clause-row : goal.returns-in-None-out-clause-row
returns-in-None-out-clause-row g c = rw (c.in-None-out.is, c.in-Some.is) c.with_inserted.ensures.adds.here

pub returns-in-None-out-clause-builds : goal.returns-in-None-out-clause-builds
returns-in-None-out-clause-builds g c = rw c.in-Some.is c.with_inserted.ensures.adds.builds

pub returns-in-Some-out-2-clause-row : goal.returns-in-Some-out-2-clause-row
returns-in-Some-out-2-clause-row g c = rw (c.in-Some-out-2.is, c.in-None.is) c.with_removed.ensures.adds.here

pub returns-in-Some-out-2-clause-builds : goal.returns-in-Some-out-2-clause-builds
returns-in-Some-out-2-clause-builds g c = rw c.in-None.is c.with_removed.ensures.adds.builds

pub returns-in-None-out-2-clause-row : goal.returns-in-None-out-2-clause-row
returns-in-None-out-2-clause-row g c = rw (c.in-None-out-2.is, c.in-None.is) c.like.ensures.row

pub returns-in-None-out-2-clause-builds : goal.returns-in-None-out-2-clause-builds
returns-in-None-out-2-clause-builds g c = rw c.in-None.is c.like.ensures.builds
