use Rattle.std.specs.Borrow.{Bor}
use Rattle.std.proofs.Common.{ℕ, List, ◌∷◌, [], ◌++◌, map, length, get_or, sym, subst, ◌∙◌}
use Rattle.std.specs.List.{All, AllZip}
use Rattle.std.proofs.lemmas.Iterator.Consumers.{YieldsList-from_first, YieldsList-turn, YieldsList-end}
use Rattle.std.proofs.lemmas.List.Elements.{All-map}
use Rattle.node_heap.specs.Heap.{Heap}
use Rattle.rrb_core.specs.Vector.{IsGoodVector}
use Rattle.champ_chain.specs.Entry.{Entry, SameSet}
use Rattle.champ_chain.proofs.SetLemmas.{same-sym}
use Rattle.champ_kinds.proofs.ZipLemmas.{all-turned}
use Rattle.node_heap.specs.Heap.{form_at}
use Rattle.shell_terms.specs.Edit.{Bytes}
use Rattle.plain_space.specs.Workspace.{Names}
use Rattle.state_rows.specs.InHeap.{AreNamesIn}
use Rattle.state_rows.specs.Listing.{shown_text, IsTextAt}
use Rattle.state_rows.proofs.Contents.{set-apart, set-there}
use Rattle.state_rows.proofs.Zips.{zip-push}
use Rattle.state_rows.proofs.Listed.{at-turn, names-in-order, names-listed}
use Rattle.state_rows.proofs.Staying.{map-self}
use Rattle.state_rows.proofs.Steps.{stars-at, set-is}
use Rattle.state_rows.proofs.list.stars.Goals as goal

pub members-cell-items-requires : goal.members-cell-items-requires
members-cell-items-requires c =
    let h = c.args.heap.now in
    let s = c.requires.state.0 in
    let is = c.requires.state.1 in
    (is.stars_are.entries, set-is (stars-at c.requires.bits c.stars_of.ensures.bits c.stars_of.ensures.root s is))

-- each link that the walk gives is a cell
cells-there : (h : Heap Bytes) (bits l : ℕ) (names : Names) (is : AreNamesIn h bits l names) (ls : List ℕ) → SameSet ls (map (λ e. e.link) is.entries) → All (λ k. (text : Bytes) × IsTextAt h k text) ls
cells-there h bits l names is ls same =
    all-turned (λ k. (text : Bytes) × IsTextAt h k text) (map (λ e. e.link) is.entries) ls (same-sym ls (map (λ e. e.link) is.entries) same)
    (All-map (λ k. (text : Bytes) × IsTextAt h k text) (λ (e : Entry Bytes). e.link) is.entries (λ i d low. ((get_or is.entries i d).key, is.cells i d low)))

pub cell_text-requires : goal.cell_text-requires
cell_text-requires c =
    let h = c.args.heap.now in
    let s = c.requires.state.0 in
    let is = c.requires.state.1 in
    let same = c.members-cell-items.ensures.cells is.stars_are.entries (set-is (stars-at c.requires.bits c.stars_of.ensures.bits c.stars_of.ensures.root s is)) in
    let turn = YieldsList-turn (YieldsList-from_first (λ (x : ℕ). x) (λ (e : List ℕ). e) c.members-cell-items.result c.into_iter-cell-iterator.ensures.into_iter_gives) c.loop-cell.yielded _ c.loop-cell.yielded_by _ _ c.in-Some.cell c.in-Some.is c.next.ensures.steps in
    at-turn (λ k. (text : Bytes) × IsTextAt h k text) c.members-cell-items.result (length c.loop-cell.yielded) c.in-Some.cell (cells-there h c.args.bits is.stars s.stars is.stars_are c.members-cell-items.result same) turn

pub loop-cell-preserved : goal.loop-cell-preserved
loop-cell-preserved c =
    let h = c.args.heap.now in
    let s = c.requires.state.0 in
    let is = c.requires.state.1 in
    let same = c.members-cell-items.ensures.cells is.stars_are.entries (set-is (stars-at c.requires.bits c.stars_of.ensures.bits c.stars_of.ensures.root s is)) in
    let turn = YieldsList-turn (YieldsList-from_first (λ (x : ℕ). x) (λ (e : List ℕ). e) c.members-cell-items.result c.into_iter-cell-iterator.ensures.into_iter_gives) c.loop-cell.yielded _ c.loop-cell.yielded_by _ _ c.in-Some.cell c.in-Some.is c.next.ensures.steps in
    let given : (text : Bytes) × IsTextAt h c.in-Some.cell text = at-turn (λ k. (text : Bytes) × IsTextAt h k text) c.members-cell-items.result (length c.loop-cell.yielded) c.in-Some.cell (cells-there h c.args.bits is.stars s.stars is.stars_are c.members-cell-items.result same) turn in
    let shown : IsTextAt h c.in-Some.cell c.cell_text.result.now = subst (IsTextAt h c.in-Some.cell) (sym (c.cell_text.ensures given.0 given.1)) given.1 in
    subst (AllZip (λ k name. IsTextAt h k (shown_text name)) (c.loop-cell.yielded ++ c.in-Some.cell ∷ [])) (sym {A = List (Bor Bytes)} c.in_ok-push.ensures.items)
    (zip-push (λ k name. IsTextAt h k (shown_text name)) c.loop-cell.yielded c.loop-cell.listed.items c.in-Some.cell c.cell_text.result c.loop-cell.invariant shown)

pub returns : goal.returns
returns c = λ s is.
    let h = c.args.heap.now in
    let E = is.stars_are.entries in
    let all = c.members-cell-items.result in
    let same = c.members-cell-items.ensures.cells E (set-is (stars-at c.requires.bits c.stars_of.ensures.bits c.stars_of.ensures.root s is)) in
    let done = YieldsList-end (YieldsList-from_first (λ (x : ℕ). x) (λ (e : List ℕ). e) all c.into_iter-cell-iterator.ensures.into_iter_gives) c.loop-cell.yielded _ c.loop-cell.yielded_by _ _ c.in-None.is c.next.ensures.steps in
    let zip = subst (λ (ks : List ℕ). AllZip (λ k name. IsTextAt h k (shown_text name)) ks c.loop-cell.listed.items) (sym (map-self c.loop-cell.yielded) ∙ done.0) c.loop-cell.invariant in
    let names = names-listed (λ k name. IsTextAt h k (shown_text name)) shown_text E all c.loop-cell.listed.items (λ i d low name at. let there = is.stars_are.cells i d low in cc) same zip in
    names-in-order shown_text s.stars (map (λ e. e.key) E) c.loop-cell.listed.items c.sort.new.self.items names
    (set-apart (form_at h) (IsGoodVector h) c.args.bits is.stars s.stars is.stars_are) (set-there (form_at h) (IsGoodVector h) c.args.bits is.stars s.stars is.stars_are) c.in_ok-sort.ensures.permutation c.in_ok-sort.ensures.sorted
