use Rattle.std.proofs.Common.{◌≡◌, subst, arith, List, map}
use Rattle.std.specs.List.Sorted.{IsPermutation}
use Rattle.std.specs.Ordering.{nat_cmp}
use Rattle.std.specs.Cmp.Lexicographic.{slice_cmp}
use Rattle.std.proofs.lemmas.Cmp.{nat_list_cmp_total}
use Rattle.champ_chain.specs.Entry.{SameSet}
use Rattle.champ_chain.proofs.SetLemmas.{same-sym}
use Rattle.champ_chain.proofs.RisingLemmas.{same-distinct}
use Rattle.champ_trie.proofs.GatherLemmas.{same-map}
use Rattle.pool_carry.specs.Making.{seen}
use Rattle.pool_carry.specs.declared.entries.Entry.{Entry as CodedEntry}
use Rattle.pool_carry.proofs.Sorted.{permuted-same, sorted-rises}
use Rattle.pool_carry.proofs.Coded.{lt-first, seen-sorted}
use Rattle.pool_carry.proofs.tries.rising.Goals as goal

sorted-same : (from to whole : List CodedEntry) → from ≡ whole → IsPermutation from to → SameSet (map seen to) (map seen whole)
sorted-same from to whole is permuted = subst (λ es. SameSet (map seen to) (map seen es)) is (same-map seen to from (permuted-same from to permuted))

pub returns-clause-same : goal.returns-clause-same
returns-clause-same c = sorted-same _ c.sort.new.self.items c.args.entries.now c.in_ok-sorted.ensures.items c.in_ok-sort.ensures.permutation

pub returns-clause-rising : goal.returns-clause-rising
returns-clause-rising c =
    let same = sorted-same _ c.sort.new.self.items c.args.entries.now c.in_ok-sorted.ensures.items c.in_ok-sort.ensures.permutation in
    sorted-rises (slice_cmp nat_cmp) nat_list_cmp_total (map seen c.sort.new.self.items)
    (same-distinct (slice_cmp nat_cmp) nat_list_cmp_total (map seen c.args.entries.now) (map seen c.sort.new.self.items) (same-sym _ _ same) (record { once = c.requires.once }))
    (seen-sorted c.sort.new.self.items (λ k d low. lt-first _ _ (c.in_ok-sort.ensures.sorted k d (omega arith) low)))
