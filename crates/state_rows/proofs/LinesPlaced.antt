-- How the lines of a buffer are edited below a state row with one owner.
use Rattle.std.proofs.Common.{◌≡◌, ◌↔◌, ◌≢◌, ℕ, ◌+◌, ◌*◌, ◌<◌, ◌≤◌, List, [], ◌∷◌, ◌++◌, length, remove, Bool, true, false, cond, eqb, Option, Some, None, inl, inr, refl, sym, subst, ap, ◌∙◌, arith}
use Rattle.champ_trie.specs.declared.TheConstants.{ADD_NODES}
use Rattle.std.specs.Prelude.{option_map, IsSomeAnd, slice_get, slice_index, slice_set}
use Rattle.std.specs.List.{AllZip}
use Rattle.std.specs.Ordering.{nat_cmp}
use Rattle.std.specs.Cmp.Lexicographic.{slice_cmp}
use Rattle.std.proofs.lemmas.Bool.{cases_eq}
use Rattle.std.proofs.lemmas.Bool.Decides.{nat_tests}
use Rattle.node_heap.specs.Links.{count, HasLink, Reaches, here, below}
use Rattle.node_heap.specs.declared.row.Head.{Head}
use Rattle.node_heap.specs.Forms.{Row, Kind, cell, node, form_of, head_of, links_of, is_node}
use Rattle.node_heap.specs.Heap.{Heap, row_at, form_at, links_at, holds_at, owners_at, live_count, one_at, IsGraph}
use Rattle.node_heap.specs.Calls.{Extends, Builds, KeepsHeld, KeepsOwners, KeepsToNeed, Makes, MakesWhatCame, Releases, Trades}
use Rattle.node_heap.specs.InPlace.{child_at, other_at, OwnsDown, Changes, Writes, path_start, path_then}
use Rattle.node_heap.specs.declared.owner.Owner.TheVariants.{Hold as by_hold, Child as by_place}
use Rattle.node_heap.specs.Owner.{alone, relinked, with_root, links_beside, KeepsBeside, EditsBy}
use Rattle.node_heap.proofs.AloneLemmas.{alone-same}
use Rattle.node_heap.proofs.Counts.{test_same}
use Rattle.node_heap.proofs.BuildLemmas.{count-cons, count-one}
use Rattle.node_heap.proofs.EditLaws.{KeepsHeld-own, paths-off, roots-off}
use Rattle.node_heap.proofs.Edited.{Changes-path, Changes-follow, Trades-both}
use Rattle.node_heap.proofs.OwnerLemmas.{EditsBy-hold, KeepsHeld-EditsBy, held-root}
use Rattle.node_heap.proofs.Frames.{Balances-Releases, KeepsBelow-trans, KeepsHeld-Releases, KeepsHeld-then}
use Rattle.node_heap.proofs.GraphLemmas.{IsGraph-acyclic}
use Rattle.node_heap.proofs.Reach.{Reaches-trans}
use Rattle.rrb_core.specs.Vector.{elements}
use Rattle.edit_vec.specs.Edit.{PushesElement, SetsElement}
use Rattle.edit_vec.specs.Laws.{KeepsBesideAndElements}
use Rattle.champ_trie.specs.Trie.{code_by}
use Rattle.champ_kinds.proofs.ZipLemmas.{zip-length}
use Rattle.edit_trie.specs.Path.{pair_rows, MakesCopies}
use Rattle.shell_terms.specs.Edit.{Bytes}
use Rattle.plain_space.specs.Workspace.{State, with_lines}
use Rattle.plain_space.specs.Cost.{alike_buffers}
use Rattle.elem_core.specs.declared.codes.TheConstants.{LEVELS}
use Rattle.elem_core.specs.Codes.{text_code}
use Rattle.state_rows.specs.InHeap.{IsTextIn, AreLinesIn, IsStateIn}
use Rattle.state_rows.specs.EditedStates.{CopiesOfPath, OwnsLines, StaysBeside, lines_path}
use Rattle.state_rows.proofs.Edited.{same-rows}
use Rattle.state_rows.proofs.Room.{room-made, room-then}
use Rattle.state_rows.proofs.Zips.{zip-at, zip-push, zip-set, zip-among}
use Rattle.state_rows.proofs.Staying.{buffers-grown, names-grown, states-stay}

-- a state row that is made one's own
pub state-owned : {old mid : Heap Bytes} {bits l k : ℕ} {s : State} → Extends old mid → row_at mid k ≡ row_at old l → IsStateIn old bits l s → IsStateIn mid bits k s
state-owned {old} {mid} {bits} {s = s} more same is = record {
  buffers = is.buffers;
  stars = is.stars;
  row = ap (option_map form_of) same ∙ is.row;
  buffers_are = buffers-grown old mid more bits is.buffers s.buffers is.buffers_are;
  stars_are = names-grown old mid more bits is.stars s.stars is.stars_are;
}

pub same-test : (p : ℕ) → eqb p p ≡ true
same-test p = grind (arith, nat_tests)

pub other-test : (l p : ℕ) → l ≢ p → eqb l p ≡ false
other-test l p other = grind (arith, nat_tests)

either-same : {Z : Type 0} (t : Bool) (z : Z) → cond t z z ≡ z
either-same true z = refl
either-same false z = refl

module _ {T : Type 0} where
  -- the owner's row has the new root
  pub at-owner : (p r index : ℕ) (row : Option (Row T)) → with_root (by_place p index) r p row ≡ relinked index r row
  at-owner p r index row = ap (λ t. cond t (relinked index r row) row) (same-test p)

  -- a cell has no place for it
  cell-unlinked : (p r index l : ℕ) (row : Option (Row T)) {x : T} → option_map form_of row ≡ Some (cell x) → with_root (by_place p index) r l row ≡ row
  cell-unlinked p r index l None is = absurd (let h = is in cc)
  cell-unlinked p r index l (Some (node head links)) is = absurd (let h = is in cc)
  cell-unlinked p r index l (Some (cell y)) is = either-same (eqb l p) (Some (cell y))

  -- a way down to a row goes beside the links of that row
  pub sole-way : (h : Heap T) (p index : ℕ) → IsGraph h → (first x : ℕ) → OwnsDown h first x → Reaches (links_at h) x p → Reaches (links_beside h (by_place p index)) first x
  sole-way h p index graph first _ path_start down = here first
  sole-way h p index graph first x (path_then l _ path has one) down =
      let up : Reaches (links_at h) l p = below l x p has down in
      let other : l ≢ p = λ e. IsGraph-acyclic h graph l x has (subst (λ j. Reaches (links_at h) x j) (sym e) down) in
      let link : HasLink (links_beside h (by_place p index)) l x = subst (λ t. 0 < count x (cond t (remove (links_at h l) index) (links_at h l))) (sym (other-test l p other)) has in
      Reaches-trans (links_beside h (by_place p index)) first l x (sole-way h p index graph first l path up) (below l x x link (here x))

-- a text stays where its cell does
pub text-stays : (old new : Heap Bytes) {bits k : ℕ} {x : Bytes} → row_at new k ≡ row_at old k → IsTextIn old bits k x → IsTextIn new bits k x
text-stays old new same is = record { row = ap (option_map form_of) same ∙ is.row; line = is.line }

module _ {old new : Heap Bytes} {bits row pair v line : ℕ} {xs : List Bytes} {text : Bytes} (graph : IsGraph old) (down : OwnsDown old row pair) (held : 0 < holds_at old row) (kept : KeepsBesideAndElements (by_place pair 1) old new v)
    (lines : AreLinesIn old bits (child_at old pair 1) xs) (is : IsTextIn old bits line text) (line_held : 0 < holds_at old line) where
  -- the new line's cell stays, and so does each old one's
  line-stays : IsTextIn new bits line text
  line-stays = text-stays old new (kept.beside line line line_held (here line) ∙ cell-unlinked pair v 1 line (row_at old line) is.row) is

  lines-stay : AllZip (IsTextIn new bits) (elements old (child_at old pair 1)) xs
  lines-stay = zip-among (IsTextIn old bits) (IsTextIn new bits) (elements old (child_at old pair 1)) xs (λ k some x at. text-stays old new (kept.below k some k (here k)) at) lines.values

  pub pushed-lines : PushesElement (by_place pair 1) old new v line → AreLinesIn new bits v (xs ++ text ∷ [])
  pushed-lines push = record {
    vector = push.vector.0;
    values =
        subst (λ (ks : List ℕ). AllZip (IsTextIn new bits) ks (xs ++ text ∷ [])) (sym push.vector.1)
        (zip-push (IsTextIn new bits) (elements old (child_at old pair 1)) xs line text lines-stay line-stays);
  }

-- there is a hold of the state, and one of the line
pub state-first : {n : ℕ} (state line : ℕ) → count state (state ∷ line ∷ []) ≤ n → 0 < n
state-first state line enough = omega (arith, enough, count-cons state state (line ∷ []), test_same state state refl)

-- a state's row is a node
pub state-node : (r : Option (Row Bytes)) {kind : Kind} {links : List ℕ} → option_map form_of r ≡ Some (node kind links) → is_node r ≡ 1
state-node None is = absurd (let h = is in cc)
state-node (Some (cell x)) is = absurd (let h = is in cc)
state-node (Some (node head links)) is = refl

-- a cell leads nowhere
pub cell-links : (r : Option (Row Bytes)) {x : Bytes} → option_map form_of r ≡ Some (cell x) → links_of r ≡ []
cell-links None is = refl
cell-links (Some (cell y)) is = refl
cell-links (Some (node head links)) is = absurd (let h = is in cc)

cell-ends : (h : Heap Bytes) (line p : ℕ) {x : Bytes} → form_at h line ≡ Some (cell x) → 1 < length (links_at h p) → ¬ Reaches (links_at h) line p
cell-ends h line _ is two (here _) = absurd (omega (arith, two, ap length (cell-links (row_at h line) is)))
cell-ends h line p is two (below _ k _ has down) = absurd (omega (arith, has, ap (count k) (cell-links (row_at h line) is)))

some-text : {P : Bytes → Type 0} (o : Option Bytes) → IsSomeAnd o P → (x : Bytes) × P x
some-text None is = absurd is
some-text (Some x) is = (x, is)

-- below a state row with one owner the pair of a buffer's name and its lines has one owner too, and so has each row on the way to it
pub record OwnsBelow (old new : Heap Bytes) (bits row : ℕ) (s : State) (name : Bytes) (xs : List Bytes) (pair : ℕ) : Type 0 where
  pub sole : owners_at new pair ≡ 1
  pub two : 1 < length (links_at new pair)
  pub down : OwnsDown new row pair
  pub lines : AreLinesIn new bits (child_at new pair 1) xs
  pub changes : Changes row old new [] [] 0 (ADD_NODES + alike_buffers bits s name)
  pub makes : MakesWhatCame old new
  pub spares : KeepsToNeed old new 0 0
  pub copies : MakesCopies old new (lines_path old bits row name)
  pub later : (next : Heap Bytes) (v : ℕ) (ys : List Bytes) (spent gained : List ℕ) (c n : ℕ) → Changes pair new next spent gained c n → count row spent < holds_at new row → KeepsBeside (by_place pair 1) v (λ _. 0) new next
      → AreLinesIn next bits v ys → IsStateIn next bits row (with_lines s name ys)

-- the state's row is made one's own, and then the way to the lines
module _ (line : ℕ) {h0 h1 h2 : Heap Bytes} {bits state st : ℕ} {s : State} {name : Bytes} {xs : List Bytes} {pair : ℕ} (graph : IsGraph h0) (held : (k : ℕ) → count k (state ∷ line ∷ []) ≤ holds_at h0 k) (sole : owners_at h1 st ≡ 1)
    (builds : Builds h0 h1 (state ∷ []) (st ∷ []) 0 1) (owns : OwnsBelow h1 h2 bits st s name xs pair) where
  own-held : 0 < holds_at h1 st
  own-held = held-root graph (state-first state line (held state)) sole builds

  -- holds of the line and of the state's row are left
  mid-line : one_at st line < holds_at h1 line
  mid-line = omega (arith, builds.holds line, held line, count-one line state, count-one line st, count-cons line state (line ∷ []), count-cons line line [], test_same line line refl)

  line-left : 1 ≤ holds_at h2 line
  line-left = omega (arith, owns.changes.trades.holds line, mid-line)

  row-left : count st (line ∷ []) < holds_at h2 st
  row-left = omega (arith, owns.changes.trades.holds st, builds.holds st, held st, count-one st state, count-one st st, count-one st line, count-cons st state (line ∷ []), test_same st st refl)

  row-held : 0 < holds_at h2 st
  row-held = omega (arith, row-left)

  -- what is changed at the pair then is an edit by the state's hold
  edits-state : {h3 : Heap Bytes} {gained : List ℕ} {c n : ℕ} → Changes pair h2 h3 (line ∷ []) gained c n → EditsBy (by_hold state) h0 h3 st (line ∷ []) gained (0 + c) (1 + (ADD_NODES + alike_buffers bits s name + n))
  edits-state {h3} {gained} {c} {n} change =
      let all : Changes st h1 h3 (line ∷ []) gained (0 + c) (ADD_NODES + alike_buffers bits s name + n) = Changes-follow [] [] [] (line ∷ []) gained owns.changes (Changes-path owns.down change) in
      EditsBy-hold graph (state-first state line (held state)) sole builds all

  pub stays-beside : StaysBeside h0 h2 bits state st s name pair line
  stays-beside =
      let live = graph.held line (omega (arith, held line, count-cons line state (line ∷ []), count-cons line line [], test_same line line refl)) in
      let keeps = KeepsHeld-own st own-held sole owns.changes in
      record {
        held = line-left;
        row_held = row-left;
        below = KeepsBelow-trans h0 h1 h2 line (builds.extends.kept line live) (keeps.kept line (omega (arith, mid-line, count-cons line st [])));
        apart = paths-off h2 st pair line owns.down line-left (roots-off h2 st line row-held (owns.changes.paths.soles st (here st) sole) (omega (arith, owns.changes.trades.holds line, mid-line)));
        edits = λ h3 gained c n change. edits-state change;
      }

-- as many lines as elements
pub lines-many : {h : Heap Bytes} {bits l : ℕ} {xs : List Bytes} → AreLinesIn h bits l xs → length (elements h l) ≡ length xs
lines-many {h} {bits} {l} {xs} are = zip-length (IsTextIn h bits) (elements h l) xs are.values

-- ## A line that was put in another's place, which is given up

-- what a release spends
trades-released : {old new : Heap Bytes} {l : ℕ} → Releases old new l → IsGraph new → Trades old new (l ∷ []) [] 0 0
trades-released {l = l} rel graph = record {
  graph = graph;
  holds = λ k. omega (arith, rel.holds k, count-one k l);
  total = omega (arith, rel.count);
  cells = omega (arith, rel.fewer_cells);
  nodes = omega (arith, rel.fewer_nodes);
  balance = Balances-Releases rel;
  made = omega (arith, rel.made);
}

module _ {h0 h3 h4 : Heap Bytes} {state st line given c n : ℕ} (edit : EditsBy (by_hold state) h0 h3 st (line ∷ []) (given ∷ []) c n) (rel : Releases h3 h4 given) (graph : IsGraph h4) where
  pub set-trades : Trades h0 h4 (state ∷ line ∷ []) (st ∷ []) (c + 0) (n + 0)
  set-trades = Trades-both (state ∷ line ∷ []) (st ∷ []) edit.trades (trades-released rel graph) (λ k. omega (arith, count-cons k st (given ∷ []), count-one k st, count-one k given)) (omega arith)

  pub set-keeps : KeepsHeld (λ l. count l (state ∷ line ∷ [])) h0 h4
  set-keeps =
      KeepsHeld-then (λ l. count l (state ∷ line ∷ [])) (KeepsHeld-EditsBy edit) (KeepsHeld-Releases h3 h4 given rel graph) (λ l some. some)
      (λ l some. omega (arith, some, edit.trades.holds l, count-cons l st (given ∷ []), count-one l given)) (λ l. omega (arith, edit.trades.holds l, rel.holds l, count-cons l st (given ∷ []), count-one l given))

module _ {old new : Heap Bytes} {bits row pair v line index given : ℕ} {xs : List Bytes} {text : Bytes} (graph : IsGraph old) (down : OwnsDown old row pair) (held : 0 < holds_at old row) (kept : KeepsBesideAndElements (by_place pair 1) old new v)
    (lines : AreLinesIn old bits (child_at old pair 1) xs) (is : IsTextIn old bits line text) (line_held : 0 < holds_at old line) (set : SetsElement (by_place pair 1) old new v index line given) where
  pub set-lines : AreLinesIn new bits v (slice_set xs index text)
  set-lines = record {
    vector = set.vector.0;
    values =
        subst (λ (ks : List ℕ). AllZip (IsTextIn new bits) ks (slice_set xs index text)) (sym set.vector.1)
        (zip-set (IsTextIn new bits) (elements old (child_at old pair 1)) xs index line text (lines-stay graph down held kept lines is line_held) (line-stays graph down held kept lines is line_held));
  }

  -- what came back is a cell still
  pub given-text : index < length xs → (x : Bytes) × IsTextIn new bits given x
  given-text inside =
      let es = elements old (child_at old pair 1) in
      let at = zip-at (IsTextIn new bits) es xs index inside (lines-stay graph down held kept lines is line_held) in
      let there = some-text (slice_get xs index) at in
      (there.0, subst (λ (k : ℕ). IsTextIn new bits k there.0) (sym set.back) there.1)

-- ## A buffer's lines that were put in place of others

-- a row with this head and one other link
row-written : (p index v : ℕ) (old new : Option (Row Bytes)) → index < length (links_of old) → head_of new ≡ head_of old → links_of new ≡ slice_set (links_of old) index v → new ≡ relinked index v old
row-written p index v None new two head links = absurd (omega (arith, two))
row-written p index v (Some (cell x)) new two head links = absurd (omega (arith, two))
row-written p index v (Some (node h ls)) None two head links = absurd (let e = head in cc)
row-written p index v (Some (node h ls)) (Some (cell x)) two head links = absurd (let e = head in cc)
row-written p index v (Some (node h ls)) (Some (node k ms)) two head links =
    let same : k ≡ h = (let e = head in cc) in
    ap (λ (d : Head). Some (node d ms)) same ∙ ap (λ (js : List ℕ). Some (node h js)) links

module _ {old new : Heap Bytes} {pair : ℕ} (v : ℕ) (two : 1 < length (links_at old pair)) (writes : Writes old new pair (head_of (row_at old pair)) (slice_set (links_at old pair) 1 v)) where
  -- nothing but the pair's link is another
  pub put-beside : KeepsBeside (by_place pair 1) v (λ _. 0) old new
  put-beside l m some way = elim (cases_eq m pair) as (λ _. row_at new m ≡ with_root (by_place pair 1) v m (row_at old m)) [
    | inl same ↦
        subst (λ (j : ℕ). row_at new j ≡ with_root (by_place pair 1) v j (row_at old j)) (sym same)
        (row-written pair 1 v (row_at old pair) (row_at new pair) two writes.new_head writes.new_links ∙ sym (at-owner pair v 1 (row_at old pair)))
    | inr other ↦ writes.others m other ∙ sym (ap (λ t. cond t (relinked 1 v (row_at old m)) (row_at old m)) (other-test m pair other))
  ]

  -- so lines that don't reach the pair stay
  pub put-stay : {bits l : ℕ} {ys : List Bytes} → ¬ Reaches (links_at old) l pair → AreLinesIn old bits l ys → AreLinesIn new bits l ys
  put-stay {bits} {l} {ys} off is = (states-stay old new bits l (λ m down. writes.others m (λ same. off (subst (Reaches (links_at old) l) same down)))).lines ys is

-- ## Where a state's row has one owner, it is one's own already

module _ {old mid : Heap Bytes} {state st : ℕ} (graph : IsGraph old) (same : st ≡ state) (builds : Builds old mid (state ∷ []) (st ∷ []) 0 1) (makes : Makes old mid 0 (other_at state st))
    (owners : (k : ℕ) → owners_at mid k + one_at state k ≡ owners_at old k + (one_at st k + other_at state st * count k (links_at old state))) where
  none-copied : other_at state st ≡ 0
  none-copied = ap (λ (k : ℕ). other_at state k) same ∙ ap (λ t. cond t 0 1) (same-test state)

  same-owners : KeepsOwners old mid
  same-owners k = omega (arith, owners k, ap (λ (j : ℕ). one_at j k) same, ap (λ (m : ℕ). m * count k (links_at old state)) none-copied)

  -- the rows on the way to a buffer's lines are the same
  same-path : (bits : ℕ) (name : Bytes) → lines_path mid bits st name ≡ lines_path old bits state name
  same-path bits name =
      let rows = same-rows graph builds.graph builds.extends same-owners in
      let forms : (k : ℕ) → form_at mid k ≡ form_at old k = λ k. ap (option_map form_of) (rows k) in
      let live : live_count mid ≡ live_count old = omega (arith, makes.live, none-copied) in
      let first : child_at mid st 0 ≡ child_at old state 0 = ap (λ (k : ℕ). child_at mid k 0) same ∙ ap (λ (r : Option (Row Bytes)). slice_index (links_of r) 0) (rows state) in
      (λ i. pair_rows (slice_cmp nat_cmp) (λ k. forms k i) name (live i) LEVELS 0 (code_by text_code bits name) (first i))

  -- and what is made is just those of them that aren't alone
  path-made : (bits : ℕ) (name : Bytes) (now : Heap Bytes) → MakesWhatCame mid now → MakesCopies mid now (lines_path mid bits st name) → CopiesOfPath old now (lines_path old bits state name)
  path-made bits name now came copies =
      let path = same-path bits name in
      let rows : alone mid (lines_path mid bits st name) ≡ alone old (lines_path old bits state name) = alone-same mid old (lines_path mid bits st name) same-owners ∙ ap (alone old) path in
      omega (arith, came.live, came.made, copies, rows, ap length path, makes.made, none-copied, graph.few_made)

-- the state's row was made one's own, and the way from it to a buffer's lines
pub owns-way : {old mid new : Heap Bytes} {bits state st pair : ℕ} {s : State} {name : Bytes} {xs : List Bytes} → IsGraph old → 0 < holds_at old state → ((st ≡ state) ↔ (owners_at old state ≡ 1)) → owners_at mid st ≡ 1 → Builds old mid (state ∷ []) (st ∷ []) 0 1 → Makes old mid 0 (other_at state st)
    → ((k : ℕ) → owners_at mid k + one_at state k ≡ owners_at old k + (one_at st k + other_at state st * count k (links_at old state))) → OwnsBelow mid new bits st s name xs pair → OwnsLines old new bits state st s name xs pair
owns-way {bits = bits} {name = name} graph held same sole builds makes owners owns = record {
  sole = owns.sole;
  two = owns.two;
  down = owns.down;
  lines = owns.lines;
  trades = (EditsBy-hold graph held sole builds owns.changes).trades;
  live = omega (arith, makes.live, owns.makes.live);
  made = omega (arith, makes.made, makes.live, owns.makes.made, owns.makes.live);
  spares = room-then (room-made makes) owns.spares;
  copies = λ one. path-made graph (same.1 one) builds makes owners bits name _ owns.makes owns.copies;
  besides = λ l holds. stays-beside l graph holds sole builds owns;
  later = owns.later;
}
