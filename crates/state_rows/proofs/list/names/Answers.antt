use Rattle.std.specs.Borrow.{Bor}
use Rattle.std.proofs.Common.{◌≡◌, ℕ, List, ◌∷◌, [], ◌++◌, Some, option_map, map, length, sym, subst, ◌∙◌}
use Rattle.std.specs.List.{AllZip}
use Rattle.std.specs.Ordering.{nat_cmp}
use Rattle.std.specs.Cmp.Lexicographic.{slice_cmp}
use Rattle.std.specs.FinMap as finite
use Rattle.std.proofs.lemmas.Iterator.Consumers.{YieldsList-from_first, YieldsList-turn, YieldsList-end}
use Rattle.elem_core.specs.Codes.{text_code}
use Rattle.node_heap.specs.Heap.{form_at}
use Rattle.rrb_core.specs.Vector.{IsGoodVector}
use Rattle.champ_trie.specs.Trie.{IsTrieOf}
use Rattle.shell_terms.specs.Edit.{Bytes}
use Rattle.state_rows.specs.InHeap.{AreLinesIn}
use Rattle.state_rows.specs.Listing.{shown_size, IsSizeAt}
use Rattle.state_rows.proofs.Contents.{keys-apart, keys-there}
use Rattle.state_rows.proofs.Zips.{zip-push}
use Rattle.state_rows.proofs.Listed.{at-turn, listing-same, names-listed, all-listed, entry-names, sizes-there, size-values, name-first}
use Rattle.state_rows.proofs.Staying.{map-self}
use Rattle.state_rows.proofs.list.names.Goals as goal

pub entries-entry-items-requires : goal.entries-entry-items-requires
entries-entry-items-requires c =
    let is = c.requires.state.1 in
    record { trie = (c.args.bits, is.buffers_are.entries, subst (λ (l : ℕ). IsTrieOf (slice_cmp nat_cmp) text_code c.args.bits c.args.heap.now l is.buffers_are.entries) (sym (c.root.ensures ∙ c.buffers_of.ensures.root c.requires.state.0 is)) is.buffers_are.trie.trie) }

pub entry_size-requires : goal.entry_size-requires
entry_size-requires c =
    let h = c.args.heap.now in
    let s = c.requires.state.0 in
    let is = c.requires.state.1 in
    let same = c.entries-entry-items.ensures.links c.args.bits is.buffers_are.entries (subst (λ (l : ℕ). IsTrieOf (slice_cmp nat_cmp) text_code c.args.bits h l is.buffers_are.entries) (sym (c.root.ensures ∙ c.buffers_of.ensures.root s is)) is.buffers_are.trie.trie) in
    let turn = YieldsList-turn (YieldsList-from_first (λ (x : ℕ). x) (λ (e : List ℕ). e) c.entries-entry-items.result c.into_iter-entry-iterator.ensures.into_iter_gives) c.loop-entry.yielded _ c.loop-entry.yielded_by _ _ c.in-Some.entry c.in-Some.is c.next.ensures.steps in
    at-turn (λ k. (size : Bytes × ℕ) × IsSizeAt h k size) c.entries-entry-items.result (length c.loop-entry.yielded) c.in-Some.entry
    (sizes-there h c.args.bits is.buffers s.buffers is.buffers_are c.entries-entry-items.result same) turn

pub loop-entry-preserved : goal.loop-entry-preserved
loop-entry-preserved c =
    let h = c.args.heap.now in
    let s = c.requires.state.0 in
    let is = c.requires.state.1 in
    let same = c.entries-entry-items.ensures.links c.args.bits is.buffers_are.entries (subst (λ (l : ℕ). IsTrieOf (slice_cmp nat_cmp) text_code c.args.bits h l is.buffers_are.entries) (sym (c.root.ensures ∙ c.buffers_of.ensures.root s is)) is.buffers_are.trie.trie) in
    let turn = YieldsList-turn (YieldsList-from_first (λ (x : ℕ). x) (λ (e : List ℕ). e) c.entries-entry-items.result c.into_iter-entry-iterator.ensures.into_iter_gives) c.loop-entry.yielded _ c.loop-entry.yielded_by _ _ c.in-Some.entry c.in-Some.is c.next.ensures.steps in
    let given : (size : Bytes × ℕ) × IsSizeAt h c.in-Some.entry size = at-turn (λ k. (size : Bytes × ℕ) × IsSizeAt h k size) c.entries-entry-items.result (length c.loop-entry.yielded) c.in-Some.entry
    (sizes-there h c.args.bits is.buffers s.buffers is.buffers_are c.entries-entry-items.result same) turn in
    let shown : IsSizeAt h c.in-Some.entry (shown_size c.entry_size.result) = subst (IsSizeAt h c.in-Some.entry) (sym (c.entry_size.ensures given.0 given.1)) given.1 in
    subst (AllZip (λ k size. IsSizeAt h k (shown_size size)) (c.loop-entry.yielded ++ c.in-Some.entry ∷ [])) (sym {A = List (Bor Bytes × ℕ)} c.in_ok-push.ensures.items)
    (zip-push (λ k size. IsSizeAt h k (shown_size size)) c.loop-entry.yielded c.loop-entry.listed.items c.in-Some.entry c.entry_size.result c.loop-entry.invariant shown)

pub returns : goal.returns
returns c = λ s is.
    let h = c.args.heap.now in
    let bits = c.args.bits in
    let named = is.buffers_are in
    let E = named.entries in
    let all = c.entries-entry-items.result in
    let same = c.entries-entry-items.ensures.links bits E (subst (λ (l : ℕ). IsTrieOf (slice_cmp nat_cmp) text_code bits h l E) (sym (c.root.ensures ∙ c.buffers_of.ensures.root s is)) named.trie.trie) in
    let done = YieldsList-end (YieldsList-from_first (λ (x : ℕ). x) (λ (e : List ℕ). e) all c.into_iter-entry-iterator.ensures.into_iter_gives) c.loop-entry.yielded _ c.loop-entry.yielded_by _ _ c.in-None.is c.next.ensures.steps in
    let zip = subst (λ (ks : List ℕ). AllZip (λ k size. IsSizeAt h k (shown_size size)) ks c.loop-entry.listed.items) (sym (map-self c.loop-entry.yielded) ∙ done.0) c.loop-entry.invariant in
    let names = names-listed (λ k size. IsSizeAt h k (shown_size size)) (λ size. size.0.now) E all c.loop-entry.listed.items
    (λ i d low size at. entry-names h (IsGoodVector h) bits (AreLinesIn h bits) is.buffers s.buffers named i d low size.0.now at.entry) same zip in
    let values = all-listed (λ k size. IsSizeAt h k (shown_size size)) (λ size. option_map length (finite.get s.buffers size.0.now) ≡ Some size.1) E all c.loop-entry.listed.items
    (λ i d low size at. size-values h bits is.buffers s.buffers named i d low (shown_size size) at) same zip in
    listing-same (λ size. size.0.now) (λ size. size.1) s.buffers length (map (λ e. e.key) E) c.loop-entry.listed.items c.sort.new.self.items names
    (keys-apart (form_at h) (IsGoodVector h) bits (AreLinesIn h bits) is.buffers s.buffers named) (keys-there (form_at h) (IsGoodVector h) bits (AreLinesIn h bits) is.buffers s.buffers named)
    values c.in_ok-sort.ensures.permutation (λ k d low high. name-first _ _ (c.in_ok-sort.ensures.sorted k d low high))
