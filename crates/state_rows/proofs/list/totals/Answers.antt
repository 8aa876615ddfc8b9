use Rattle.std.proofs.Common.{◌≡◌, ℕ, ◌+◌, ◌^◌, ◌<◌, List, ◌∷◌, [], ◌++◌, length, sym, subst, ◌∙◌, arith}
use Rattle.std.specs.List.{sum_by}
use Rattle.std.specs.Ordering.{nat_cmp}
use Rattle.std.specs.Cmp.Lexicographic.{slice_cmp}
use Rattle.std.proofs.lemmas.Iterator.Consumers.{YieldsList-from_first, YieldsList-turn, YieldsList-end}
use Rattle.std.proofs.lemmas.List.{map-id}
use Rattle.elem_core.specs.Codes.{text_code}
use Rattle.champ_trie.specs.Trie.{IsTrieOf}
use Rattle.champ_kinds.proofs.ZipLemmas.{zip-length}
use Rattle.shell_terms.specs.Edit.{Bytes}
use Rattle.plain_space.specs.Workspace.{State, sizes}
use Rattle.state_rows.specs.InHeap.{IsStateIn}
use Rattle.state_rows.specs.Listing.{shown_size, IsSizeAt}
use Rattle.state_rows.proofs.Counting.{AreTotals, totals-more, totals-all}
use Rattle.state_rows.proofs.Listed.{at-turn, sizes-there}
use Rattle.state_rows.proofs.list.totals.Goals as goal

pub entries-entry-items-requires : goal.entries-entry-items-requires
entries-entry-items-requires c =
    let is = c.requires.state.1 in
    record { trie = (c.args.bits, is.buffers_are.entries, subst (λ (l : ℕ). IsTrieOf (slice_cmp nat_cmp) text_code c.args.bits c.args.heap.now l is.buffers_are.entries) (sym (c.root.ensures ∙ c.buffers_of.ensures.root c.requires.state.0 is)) is.buffers_are.trie.trie) }

pub entry_size-count-requires : goal.entry_size-count-requires
entry_size-count-requires c =
    let h = c.args.heap.now in
    let s = c.requires.state.0 in
    let is = c.requires.state.1 in
    let same = c.entries-entry-items.ensures.links c.args.bits is.buffers_are.entries (subst (λ (l : ℕ). IsTrieOf (slice_cmp nat_cmp) text_code c.args.bits h l is.buffers_are.entries) (sym (c.root.ensures ∙ c.buffers_of.ensures.root s is)) is.buffers_are.trie.trie) in
    let turn = YieldsList-turn (YieldsList-from_first (λ (x : ℕ). x) (λ (e : List ℕ). e) c.entries-entry-items.result c.into_iter-entry-iterator.ensures.into_iter_gives) c.loop-entry.yielded _ c.loop-entry.yielded_by _ _ c.in-Some.entry c.in-Some.is c.next.ensures.steps in
    at-turn (λ k. (size : Bytes × ℕ) × IsSizeAt h k size) c.entries-entry-items.result (length c.loop-entry.yielded) c.in-Some.entry
    (sizes-there h c.args.bits is.buffers s.buffers is.buffers_are c.entries-entry-items.result same) turn

pub overflow_add-buffers : goal.overflow_add-buffers
overflow_add-buffers c =
    let turn = YieldsList-turn (YieldsList-from_first (λ (x : ℕ). x) (λ (e : List ℕ). e) c.entries-entry-items.result c.into_iter-entry-iterator.ensures.into_iter_gives) c.loop-entry.yielded _ c.loop-entry.yielded_by _ _ c.in-Some.entry c.in-Some.is c.next.ensures.steps in
    let is = c.loop-entry.invariant in
    omega (arith, is.number, zip-length (IsSizeAt c.args.heap.now) c.loop-entry.yielded is.sizes is.each, turn.0, c.entries-entry-items.ensures.few)

pub loop-entry-preserved : goal.loop-entry-preserved
loop-entry-preserved c =
    let h = c.args.heap.now in
    let s = c.requires.state.0 in
    let is = c.requires.state.1 in
    let same = c.entries-entry-items.ensures.links c.args.bits is.buffers_are.entries (subst (λ (l : ℕ). IsTrieOf (slice_cmp nat_cmp) text_code c.args.bits h l is.buffers_are.entries) (sym (c.root.ensures ∙ c.buffers_of.ensures.root s is)) is.buffers_are.trie.trie) in
    let turn = YieldsList-turn (YieldsList-from_first (λ (x : ℕ). x) (λ (e : List ℕ). e) c.entries-entry-items.result c.into_iter-entry-iterator.ensures.into_iter_gives) c.loop-entry.yielded _ c.loop-entry.yielded_by _ _ c.in-Some.entry c.in-Some.is c.next.ensures.steps in
    let given : (size : Bytes × ℕ) × IsSizeAt h c.in-Some.entry size = at-turn (λ k. (size : Bytes × ℕ) × IsSizeAt h k size) c.entries-entry-items.result (length c.loop-entry.yielded) c.in-Some.entry
    (sizes-there h c.args.bits is.buffers s.buffers is.buffers_are c.entries-entry-items.result same) turn in
    let shown : IsSizeAt h c.in-Some.entry (shown_size c.entry_size-count.result) = subst (IsSizeAt h c.in-Some.entry) (sym (c.entry_size-count.ensures given.0 given.1)) given.1 in
    let small : c.entry_size-count.result.1 < 2 ^ 32 = omega (arith, c.entry_size-count.type_inv.1) in
    subst (λ (n : ℕ). AreTotals h (c.loop-entry.yielded ++ c.in-Some.entry ∷ []) (c.loop-entry.buffers + 1) (c.loop-entry.lines + n)) (sym c.from-lines.ensures)
    (totals-more h c.loop-entry.yielded c.loop-entry.buffers c.loop-entry.lines c.in-Some.entry (shown_size c.entry_size-count.result) c.loop-entry.invariant shown small)

-- the totals are those of all buffers of the state
at-end : (c : goal.After-drop-entry-iterator) (s : State) → IsStateIn c.args.heap.now c.args.bits c.args.state s → (c.loop-entry.buffers ≡ length (sizes s)) × (c.loop-entry.lines ≡ sum_by (λ size. size.1) (sizes s))
at-end c s is =
    let h = c.args.heap.now in
    let named = is.buffers_are in
    let E = named.entries in
    let all = c.entries-entry-items.result in
    let same = c.entries-entry-items.ensures.links c.args.bits E (subst (λ (l : ℕ). IsTrieOf (slice_cmp nat_cmp) text_code c.args.bits h l E) (sym (c.root.ensures ∙ c.buffers_of.ensures.root s is)) named.trie.trie) in
    let done = YieldsList-end (YieldsList-from_first (λ (x : ℕ). x) (λ (e : List ℕ). e) all c.into_iter-entry-iterator.ensures.into_iter_gives) c.loop-entry.yielded _ c.loop-entry.yielded_by _ _ c.in-None.is c.next.ensures.steps in
    totals-all h c.args.bits is.buffers s.buffers named all c.loop-entry.buffers c.loop-entry.lines same
    (subst (λ (ks : List ℕ). AreTotals h ks c.loop-entry.buffers c.loop-entry.lines) (sym (map-id c.loop-entry.yielded) ∙ done.0) c.loop-entry.invariant)

pub returns-clause-buffers : goal.returns-clause-buffers
returns-clause-buffers c = λ s is. (at-end c s is).0

pub returns-clause-lines : goal.returns-clause-lines
returns-clause-lines c = λ s is. (at-end c s is).1
