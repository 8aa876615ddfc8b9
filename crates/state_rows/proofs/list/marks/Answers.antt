use Rattle.std.specs.Borrow.{Bor}
use Rattle.std.proofs.Common.{ℕ, List, ◌∷◌, [], ◌++◌, map, length, sym, subst, ◌∙◌}
use Rattle.std.specs.List.{AllZip}
use Rattle.std.specs.Ordering.{nat_cmp}
use Rattle.std.specs.Cmp.Lexicographic.{slice_cmp}
use Rattle.std.proofs.lemmas.Iterator.Consumers.{YieldsList-from_first, YieldsList-turn, YieldsList-end}
use Rattle.elem_core.specs.Codes.{text_code}
use Rattle.node_heap.specs.Heap.{form_at}
use Rattle.rrb_core.specs.Vector.{IsGoodVector}
use Rattle.champ_trie.specs.Trie.{IsTrieOf}
use Rattle.shell_terms.specs.Edit.{Bytes}
use Rattle.state_rows.specs.InHeap.{IsStateIn}
use Rattle.state_rows.specs.Listing.{shown_text, IsEntryAt}
use Rattle.state_rows.proofs.Contents.{keys-apart, keys-there}
use Rattle.state_rows.proofs.Zips.{zip-push}
use Rattle.state_rows.proofs.Listed.{at-turn, names-in-order, names-listed, entries-there, entry-names}
use Rattle.state_rows.proofs.Staying.{map-self}
use Rattle.state_rows.proofs.list.marks.Goals as goal

pub entries-entry-items-requires : goal.entries-entry-items-requires
entries-entry-items-requires c =
    let is = c.requires.versions.1 in
    record { trie = (c.args.versions.bits, is.entries, subst (λ (l : ℕ). IsTrieOf (slice_cmp nat_cmp) text_code c.args.versions.bits c.args.heap.now l is.entries) (sym c.root.ensures) is.trie.trie) }

pub entry_name-requires : goal.entry_name-requires
entry_name-requires c =
    let h = c.args.heap.now in
    let m = c.requires.versions.0 in
    let is = c.requires.versions.1 in
    let same = c.entries-entry-items.ensures.links c.args.versions.bits is.entries (subst (λ (l : ℕ). IsTrieOf (slice_cmp nat_cmp) text_code c.args.versions.bits h l is.entries) (sym c.root.ensures) is.trie.trie) in
    let turn = YieldsList-turn (YieldsList-from_first (λ (x : ℕ). x) (λ (e : List ℕ). e) c.entries-entry-items.result c.into_iter-entry-iterator.ensures.into_iter_gives) c.loop-entry.yielded _ c.loop-entry.yielded_by _ _ c.in-Some.entry c.in-Some.is c.next.ensures.steps in
    at-turn (λ k. (name : Bytes) × IsEntryAt h k name) c.entries-entry-items.result (length c.loop-entry.yielded) c.in-Some.entry
    (entries-there h (IsGoodVector h) c.args.versions.bits (IsStateIn h c.args.versions.bits) c.args.versions.root m is c.entries-entry-items.result same) turn

pub loop-entry-preserved : goal.loop-entry-preserved
loop-entry-preserved c =
    let h = c.args.heap.now in
    let m = c.requires.versions.0 in
    let is = c.requires.versions.1 in
    let same = c.entries-entry-items.ensures.links c.args.versions.bits is.entries (subst (λ (l : ℕ). IsTrieOf (slice_cmp nat_cmp) text_code c.args.versions.bits h l is.entries) (sym c.root.ensures) is.trie.trie) in
    let turn = YieldsList-turn (YieldsList-from_first (λ (x : ℕ). x) (λ (e : List ℕ). e) c.entries-entry-items.result c.into_iter-entry-iterator.ensures.into_iter_gives) c.loop-entry.yielded _ c.loop-entry.yielded_by _ _ c.in-Some.entry c.in-Some.is c.next.ensures.steps in
    let given : (name : Bytes) × IsEntryAt h c.in-Some.entry name = at-turn (λ k. (name : Bytes) × IsEntryAt h k name) c.entries-entry-items.result (length c.loop-entry.yielded) c.in-Some.entry
    (entries-there h (IsGoodVector h) c.args.versions.bits (IsStateIn h c.args.versions.bits) c.args.versions.root m is c.entries-entry-items.result same) turn in
    let shown : IsEntryAt h c.in-Some.entry c.entry_name.result.now = subst (IsEntryAt h c.in-Some.entry) (sym (c.entry_name.ensures given.0 given.1)) given.1 in
    subst (AllZip (λ k name. IsEntryAt h k (shown_text name)) (c.loop-entry.yielded ++ c.in-Some.entry ∷ [])) (sym {A = List (Bor Bytes)} c.in_ok-push.ensures.items)
    (zip-push (λ k name. IsEntryAt h k (shown_text name)) c.loop-entry.yielded c.loop-entry.listed.items c.in-Some.entry c.entry_name.result c.loop-entry.invariant shown)

pub returns : goal.returns
returns c = λ m is.
    let h = c.args.heap.now in
    let bits = c.args.versions.bits in
    let E = is.entries in
    let all = c.entries-entry-items.result in
    let same = c.entries-entry-items.ensures.links bits E (subst (λ (l : ℕ). IsTrieOf (slice_cmp nat_cmp) text_code bits h l E) (sym c.root.ensures) is.trie.trie) in
    let done = YieldsList-end (YieldsList-from_first (λ (x : ℕ). x) (λ (e : List ℕ). e) all c.into_iter-entry-iterator.ensures.into_iter_gives) c.loop-entry.yielded _ c.loop-entry.yielded_by _ _ c.in-None.is c.next.ensures.steps in
    let zip = subst (λ (ks : List ℕ). AllZip (λ k name. IsEntryAt h k (shown_text name)) ks c.loop-entry.listed.items) (sym (map-self c.loop-entry.yielded) ∙ done.0) c.loop-entry.invariant in
    let names = names-listed (λ k name. IsEntryAt h k (shown_text name)) shown_text E all c.loop-entry.listed.items
    (λ i d low name at. entry-names h (IsGoodVector h) bits (IsStateIn h bits) c.args.versions.root m is i d low (shown_text name) at) same zip in
    names-in-order shown_text m (map (λ e. e.key) E) c.loop-entry.listed.items c.sort.new.self.items names
    (keys-apart (form_at h) (IsGoodVector h) bits (IsStateIn h bits) c.args.versions.root m is) (keys-there (form_at h) (IsGoodVector h) bits (IsStateIn h bits) c.args.versions.root m is)
    c.in_ok-sort.ensures.permutation c.in_ok-sort.ensures.sorted
