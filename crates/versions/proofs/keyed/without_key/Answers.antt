use Rattle.std.proofs.Common.{ap, sym, subst, ◌∙◌, Ok, ◌+◌, arith}
use Rattle.elem_core.specs.declared.codes.TheConstants.{LEVELS}
use Rattle.champ_trie.specs.Reach.{alike_to}
use Rattle.champ_kinds.specs.Root.{Root}
use Rattle.versions.specs.Roots.{Makes}
use Rattle.versions.specs.Keyed.{alike, by_root, keys_at, IsKeySet}
use Rattle.versions.proofs.AlikeLemmas.{none-made, rows-made, set-alike}
use Rattle.versions.proofs.KeyedLemmas.{set-kind, set-without, set-lacks, answered-makes, if-some, if-none}
use Rattle.champ_kinds.proofs.StayLemmas.{set-seen}
use Rattle.versions.proofs.keyed.without_key.Goals as goal

pub returns-in-Some-clause-made : goal.returns-in-Some-clause-made
returns-in-Some-clause-made g c = λ ks is.
    let o = g.met.K.Ord.total in
    let made = c.in_ok-set.ensures in
    let seen = set-seen {r = by_root c.args.root} c.at.ensures is.set in
    rw c.into_root.ensures
    (answered-makes (IsKeySet g.K.Ord.cmp g.K.Element.code_of) (keys_at g.K.Ord.cmp) (set-kind g.K.Ord.cmp o g.K.Element.code_of) c.args.heap.now c.set_remove.new.heap c.in-Some.set.root _ _ _ (if-some _ c.in-Some.is (made.answered is.entries seen))
    (set-without g.K.Ord.cmp o g.K.Element.code_of c.args.heap.now c.set_remove.new.heap c.args.root c.in-Some.set (g.P.Probe.stands_for c.args.key.now) ks is (if-some _ c.in-Some.is made.bits ∙ ap (λ r. r.bits) c.at.ensures) (if-some _ c.in-Some.is (made.contents is.entries seen))))

pub returns-in-None-clause-made : goal.returns-in-None-clause-made
returns-in-None-clause-made g c = λ ks is.
    let o = g.met.K.Ord.total in
    let seen = set-seen {r = by_root c.args.root} c.at.ensures is.set in
    let Is = IsKeySet g.K.Ord.cmp g.K.Element.code_of in
    let same = if-none c.in-None.is c.in_ok-set.ensures.nothing in
    let lacks = set-lacks g.K.Ord.cmp o g.K.Element.code_of c.args.heap.now c.args.root (g.P.Probe.stands_for c.args.key.now) ks is ((c.set_remove.ensures.absent is.entries seen).0 (c.in_ok-set.was ∙ ap Ok c.in-None.is)) in
    subst (λ js. Makes Is c.args.heap.now c.same_keys.new.heap c.same_keys.result js) (sym lacks)
    (subst (λ h. Makes Is h c.same_keys.new.heap c.same_keys.result ks) same (c.same_keys.ensures.makes ks (subst (λ h. Is h c.args.root ks) (sym same) is)))

pub returns-in-Some-clause-rows : goal.returns-in-Some-clause-rows
returns-in-Some-clause-rows g c = λ ks is.
    let key = g.P.Probe.stands_for c.args.key.now in
    let made = c.in_ok-set.ensures in
    let few = rows-made (if-some _ c.in-Some.is (made.answered is.entries (set-seen {r = by_root c.args.root} c.at.ensures is.set))) made.made in
    omega (arith, few, ap (λ (r : Root). alike_to g.K.Element.code_of r.bits key is.entries) c.at.ensures, set-alike g.K.Ord.cmp g.met.K.Ord.total g.K.Element.code_of c.args.heap.now c.args.root key ks is)

pub returns-in-None-clause-rows : goal.returns-in-None-clause-rows
returns-in-None-clause-rows g c = λ ks is. none-made c.same_keys.new.heap (LEVELS + alike g.K.Element.code_of (g.P.Probe.stands_for c.args.key.now) ks) (if-none c.in-None.is c.in_ok-set.ensures.nothing) c.same_keys.ensures.rows
