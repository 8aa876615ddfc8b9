use Rattle.std.proofs.Common.{ap, sym, ◌∙◌, arith}
use Rattle.champ_trie.specs.Reach.{alike_to}
use Rattle.champ_kinds.specs.Root.{Root}
use Rattle.versions.specs.Keyed.{keys_at, IsKeySet}
use Rattle.versions.proofs.AlikeLemmas.{rows-made, set-alike}
use Rattle.versions.proofs.KeyedLemmas.{set-kind, set-with, answered-makes, ok-same}
use Rattle.champ_kinds.proofs.StayLemmas.{set-seen}
use Rattle.versions.proofs.keyed.with_key.Goals as goal

pub returns-in-Ok-clause-made : goal.returns-in-Ok-clause-made
returns-in-Ok-clause-made g c = λ ks is.
    let o = g.met.K.Ord.total in
    let made = c.in-Ok.ensures in
    let seen = set-seen c.at.ensures is.set in
    rw c.into_root.ensures
    (answered-makes (IsKeySet g.K.Ord.cmp g.K.Element.code_of) (keys_at g.K.Ord.cmp) (set-kind g.K.Ord.cmp o g.K.Element.code_of) c.args.heap.now c.set_insert.new.heap c.in-Ok.set.root _ _ _ (made.answered is.entries seen)
    (set-with g.K.Ord.cmp o g.K.Element.code_of c.args.heap.now c.set_insert.new.heap c.args.root c.in-Ok.set c.args.key ks is (made.bits ∙ ap (λ r. r.bits) c.at.ensures) made.containers (made.added is.entries seen) (λ there. ok-same (sym c.in-Ok.is ∙ (c.set_insert.ensures.present is.entries seen there).0) ∙ c.at.ensures)))

pub returns-in-Ok-clause-rows : goal.returns-in-Ok-clause-rows
returns-in-Ok-clause-rows g c = λ ks is.
    let few = rows-made (c.in-Ok.ensures.answered is.entries (set-seen c.at.ensures is.set)) c.in-Ok.ensures.made in
    omega (arith, few, ap (λ (r : Root). alike_to g.K.Element.code_of r.bits c.args.key is.entries) c.at.ensures, set-alike g.K.Ord.cmp g.met.K.Ord.total g.K.Element.code_of c.args.heap.now c.args.root c.args.key ks is)
