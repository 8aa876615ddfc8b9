use Rattle.std.proofs.Common.{arith, ◌+◌, ◌∙◌, ap, refl, subst}
use Rattle.elem_core.specs.Codes.{masked_code}
use Rattle.elem_core.specs.declared.codes.TheConstants.{LEVELS}
use Rattle.champ_trie.specs.declared.TheConstants.{ADD_NODES}
use Rattle.node_heap.specs.Heap.{form_at}
use Rattle.node_heap.proofs.BuildLemmas.{Builds-more}
use Rattle.champ_chain.specs.Entry.{entry}
use Rattle.champ_chain.proofs.SpotLemmas.{same-key}
use Rattle.champ_chain.proofs.WithLemmas.{key-some}
use Rattle.champ_trie.specs.Trie.{code_by}
use Rattle.champ_trie.specs.Reach.{alike_in, alike_to}
use Rattle.champ_trie.specs.Edit.{SharesBeside}
use Rattle.champ_trie.proofs.LeftLemmas.{canon-below, KeepsTries-Extends}
use Rattle.champ_trie.proofs.WithLemmas.{put-distinct}
use Rattle.champ_trie.proofs.added.Goals as goal

pub key_of-requires : goal.key_of-requires
key_of-requires g c = key-some c.args.heap.now c.args.entry c.requires.trie.1 c.requires.trie.3

pub with_at-requires-clause-key : goal.with_at-requires-clause-key
with_at-requires-clause-key g c = (c.key_of.result.now, c.key_of.ensures, c.masked-code.ensures.kept ∙ ap (λ n. masked_code n c.args.bits) c.code.ensures)

pub with_at-requires-clause-trie : goal.with_at-requires-clause-trie
with_at-requires-clause-trie g c =
    let trie = c.requires.trie in
    let key = same-key (form_at c.args.heap.now) c.args.entry c.args.entry c.key_of.result.now trie.1 refl c.key_of.ensures trie.3 in
    let is_code = c.masked-code.ensures.kept ∙ ap (λ n. masked_code n c.args.bits) (c.code.ensures ∙ ap g.T.Element.code_of key) in
    (trie.0, LEVELS, canon-below g.T.Ord.cmp (code_by g.T.Element.code_of c.args.bits) (form_at c.args.heap.now) c.args.root c.masked-code.result trie.0 trie.2, omega (arith, trie.4, ap (λ n. alike_in (code_by g.T.Element.code_of c.args.bits) n trie.0) is_code))

pub returns-clause-builds : goal.returns-clause-builds
returns-clause-builds g c = λ E k canon keyed.
    let key = same-key (form_at c.args.heap.now) c.args.entry c.args.entry c.key_of.result.now k refl c.key_of.ensures keyed in
    let is_code = c.masked-code.ensures.kept ∙ ap (λ n. masked_code n c.args.bits) (c.code.ensures ∙ ap g.T.Element.code_of key) in
    Builds-more 0 (ADD_NODES + alike_to g.T.Element.code_of c.args.bits k E) (c.with_at.ensures.builds E LEVELS (canon-below g.T.Ord.cmp (code_by g.T.Element.code_of c.args.bits) (form_at c.args.heap.now) c.args.root c.masked-code.result E canon)) (omega arith)
    (omega (arith, ap (λ n. alike_in (code_by g.T.Element.code_of c.args.bits) n E) is_code))

pub returns-clause-entries : goal.returns-clause-entries
returns-clause-entries g c = λ E k canon keyed. record {
  trie = c.with_at.ensures.trie E LEVELS k (canon-below g.T.Ord.cmp (code_by g.T.Element.code_of c.args.bits) (form_at c.args.heap.now) c.args.root c.masked-code.result E canon) keyed;
  distinct = put-distinct g.T.Ord.cmp (code_by g.T.Element.code_of c.args.bits) g.met.T.Ord.total E (entry k c.args.entry) canon.distinct;
}

pub returns-clause-tries : goal.returns-clause-tries
returns-clause-tries g c =
    let trie = c.requires.trie in
    KeepsTries-Extends c.args.heap.now c.with_at.new.heap (c.with_at.ensures.builds trie.0 LEVELS (canon-below g.T.Ord.cmp (code_by g.T.Element.code_of c.args.bits) (form_at c.args.heap.now) c.args.root c.masked-code.result trie.0 trie.2)).extends

pub returns-clause-shares : goal.returns-clause-shares
returns-clause-shares g c = λ E k canon keyed.
    let key = same-key (form_at c.args.heap.now) c.args.entry c.args.entry c.key_of.result.now k refl c.key_of.ensures keyed in
    let is_code = c.masked-code.ensures.kept ∙ ap (λ n. masked_code n c.args.bits) (c.code.ensures ∙ ap g.T.Element.code_of key) in
    subst (λ n. SharesBeside (form_at c.args.heap.now) (form_at c.with_at.new.heap) n LEVELS 0 c.args.root c.with_at.result) is_code
    (c.with_at.ensures.shares E LEVELS (canon-below g.T.Ord.cmp (code_by g.T.Element.code_of c.args.bits) (form_at c.args.heap.now) c.args.root c.masked-code.result E canon))
