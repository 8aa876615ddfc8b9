-- A root over a packed one: of the root's own hold, and in its place in a row.
use Rattle.std.proofs.Common.{◌≡◌, ℕ, suc, ◌+◌, ◌<◌, ◌≤◌, ◌^◌, List, [], ◌∷◌, ◌++◌, length, get_or, set, refl, ap, sym, subst, ◌∙◌, arith, Bool, true, false, None, IsSome, inl, inr}
use Rattle.std.specs.Prelude.{◌==◌, option_map, insert, remove, if◌then◌else◌}
use Rattle.std.specs.List.{flat_map}
use Rattle.std.proofs.lemmas.Bool.{cases_eq}
use Rattle.std.proofs.lemmas.Bool.Decides.{nat_tests}
use Rattle.std.proofs.lemmas.List.{length_push, get_or-set_same}
use Rattle.std.proofs.lemmas.List.Edits.{length-remove}
use Rattle.std.proofs.lemmas.List.Elements.{All-cons, All-nil}
use Rattle.node_heap.specs.Links.{count, HasLink, Reaches, here, below}
use Rattle.node_heap.specs.Forms.{form_of, head_of, links_of, is_node}
use Rattle.node_heap.specs.Heap.{Heap, row_at, form_at, links_at, holds_at, owners_at, hold_count, live_count, half_holds}
use Rattle.node_heap.specs.Calls.{KeepsBelow, KeepsOwners, KeepsOldOwners, Builds, Makes, Gains, HasHolds}
use Rattle.node_heap.specs.InPlace.{child_at, Writes, Changes}
use Rattle.node_heap.specs.declared.owner.Owner.TheVariants.{Hold as by_hold, Child as by_place}
use Rattle.node_heap.specs.Owner.{links_beside, relinked, with_root}
use Rattle.node_heap.proofs.Counts.{test_other}
use Rattle.node_heap.proofs.BuildLemmas.{count-cons, count-one, Builds-both, Builds-more}
use Rattle.node_heap.proofs.GraphLemmas.{IsGraph-acyclic}
use Rattle.node_heap.proofs.AloneLemmas.{KeepsAlone-none}
use Rattle.node_heap.proofs.Edited.{linked-node, count-at, linked_live, above_live, Reaches-back, Trades-Builds, Changes-then, Changes-follow, Changes-more}
use Rattle.node_heap.proofs.EditLaws.{Changes-Builds, Gains-trans, Gains-Builds, Gains-Changes, new-reach}
use Rattle.node_heap.proofs.OwnerLemmas.{insert-removed, left-at, relinked-is}
use Rattle.node_heap.specs.declared.row.TheConstants.{MOST_HEIGHT}
use Rattle.rrb_core.specs.Seq.{form_height, seq_at, IsThick, IsWell}
use Rattle.rrb_core.specs.Push.{IsPacked, IsPushedRoot, over_root}
use Rattle.rrb_core.specs.Vector.{elements, height_at, IsGoodVector, IsVectorOf}
use Rattle.rrb_core.specs.Build.{IsRowOf, AreRows}
use Rattle.rrb_core.specs.Edit.{MakesRow}
use Rattle.rrb_core.proofs.ClosedRows.{Stays}
use Rattle.rrb_core.proofs.LinkCounts.{one-held}
use Rattle.rrb_core.proofs.FillRule.{height-is, well-pos, thick-links, thick-low}
use Rattle.rrb_core.proofs.PushLemmas.{packed-thick}
use Rattle.rrb_core.proofs.BuildLemmas.{gained-held}
use Rattle.rrb_core.proofs.Stays.{live-stays, below-stays, vector-stays, well-live, thick-stays, row-stays, links-form, seq-stays}
use Rattle.rrb_core.proofs.RowLists.{one-row, rows-append, good-row, root-row}
use Rattle.edit_vec.specs.Path.{right_spine, push_path}
use Rattle.edit_vec.specs.Edit.{PushesElement}
use Rattle.edit_vec.specs.Steps.{CanPushRoot, PushesRoot, IsRootOver}
use Rattle.edit_vec.proofs.PushLemmas.{node-headed, packed-stays}
use Rattle.edit_vec.proofs.PushTop.{path-packed, spine-length}
use Rattle.node_heap.proofs.CallerLemmas.{makes-gained}

-- the rows of the new root: the old root, and a row over the element alone
module _ {T : Type 0} {old mid : Heap T} {root child n e : ℕ} (can : CanPushRoot old root e) (held : HasHolds old (root ∷ e ∷ [])) (height : n ≡ height_at old root) (packed : IsPacked (form_at old) n root) (sub : MakesRow old mid (e ∷ []) n child (e ∷ [])) where
  row-before : IsRowOf old n root (elements old root)
  row-before = rw height (root-row old root can.good)

  thick-before : IsThick (form_at old) n root
  thick-before = packed-thick (form_at old) n root row-before.well packed

  stays : Stays (λ l. IsSome (row_at old l)) old mid
  stays = live-stays can.graph sub.builds.extends

  live-root : IsSome (row_at old root)
  live-root = well-live old n root row-before.well

  pub low-root : n < MOST_HEIGHT
  low-root = thick-low (form_at old) n root thick-before (rw height can.good.shape.low) (rw row-before.items (omega (arith, can.short)))

  pub rows-both : AreRows mid n (root ∷ child ∷ [])
  rows-both =
      let some : 1 ≤ length (elements old root) = rw (← row-before.items) (well-pos (form_at old) n root row-before.well (omega (arith, thick-links (form_at old) n root thick-before))) in
      rows-append mid n (root ∷ []) (child ∷ []) (one-row mid n root (elements old root) (row-stays stays n root (elements old root) live-root row-before) some) (one-row mid n child (e ∷ []) sub.row (omega arith))
      (λ _. All-cons (IsThick (form_at mid) n) root [] (thick-stays stays n root live-root thick-before) (All-nil (IsThick (form_at mid) n)))

  items-both : flat_map (seq_at (form_at mid) n) (root ∷ child ∷ []) ≡ elements old root ++ e ∷ []
  items-both = rw ((row-stays stays n root (elements old root) live-root row-before).items, sub.row.items) refl

  pub short-both : length (flat_map (seq_at (form_at mid) n) (root ∷ child ∷ [])) < 2 ^ 32
  short-both = rw items-both (omega (arith, length_push (elements old root) e, can.short))

  pub held-both : (k : ℕ) → count k (root ∷ child ∷ []) ≤ holds_at mid k
  held-both k = omega (arith, held k, sub.builds.holds k, count-cons k root (e ∷ []), count-cons k root (child ∷ []))

  module _ {new : Heap T} {top : ℕ} (made : IsRowOf new (suc n) top (flat_map (seq_at (form_at mid) n) (root ∷ child ∷ []))) (links : links_at new top ≡ root ∷ child ∷ []) (builds : Builds mid new (root ∷ child ∷ []) (top ∷ []) 0 1) where
    pub tall-over : height_at new top ≡ suc n
    tall-over = height-is (form_at new) (suc n) top made.well

    pub vector-over : IsVectorOf new top (elements old root ++ e ∷ [])
    vector-over = good-row new (suc n) top (elements old root ++ e ∷ []) (rw items-both at made) low-root (λ _. rw links (omega arith)) (omega (arith, length_push (elements old root) e, can.short))

    pub over-new : IsRootOver new n root top e
    over-new = (child, links, seq-stays (live-stays sub.builds.graph builds.extends) n child (well-live mid n child sub.row.well) ∙ sub.row.items)

    pub builds-over : Builds old new (root ∷ e ∷ []) (top ∷ []) 0 (n + 2)
    builds-over =
        Builds-more 0 (n + 2) (Builds-both (root ∷ e ∷ []) (top ∷ []) sub.builds builds (λ k. omega (arith, count-cons k root (e ∷ []), count-cons k root (child ∷ []))) (omega arith)) (omega arith) (omega arith)

-- so a push puts an element where the root is packed
over-rule : {T : Type 0} (old new : Heap T) {n root top e : ℕ} → n ≡ height_at old root → IsPacked (form_at old) n root → height_at new top ≡ suc n → IsRootOver new n root top e → IsPushedRoot (form_at old) (form_at new) e root top
over-rule {T} old new {n} {root} {top} {e} height packed tall made =
    over_root made.0 (tall ∙ ap suc height) (subst (λ k. IsPacked (form_at old) k root) height packed) (subst (λ k. seq_at (form_at new) k made.0 ≡ e ∷ []) height made.2) (links-form new top ∙ made.1)

-- it was made of the root's own hold
pub pushes-over : {T : Type 0} {old new : Heap T} {root top n e : ℕ} → CanPushRoot old root e → n ≡ height_at old root → IsPacked (form_at old) n root → IsVectorOf new top (elements old root ++ e ∷ []) → height_at new top ≡ suc n → IsRootOver new n root top e → Builds old new (root ∷ e ∷ []) (top ∷ []) 0 (n + 2) → PushesElement (by_hold root) old new top e
pushes-over {T} {old} {new} {root} {top} {n} {e} can height packed vector tall made builds =
    let path : push_path (form_at old) root ≡ [] = rw (← height) (path-packed (form_at old) n root packed) in
    record {
      vector = vector;
      rule = over-rule old new height packed tall made;
      edits = record {
        beside = λ l m some way. builds.extends.kept l (can.graph.held l (omega (arith, some))) m way;
        trades = Trades-Builds (Builds-more 0 (height_at old root + 2) builds (omega arith) (omega (arith, height)));
      };
      path = rw path (KeepsAlone-none old);
      gains =
          let all : live_count new + 0 ≤ live_count old + length (right_spine (form_at new) top) = omega (arith, builds.makes.live, builds.few_cells, builds.few_nodes, spine-length (form_at new) (height_at new top) top, tall) in
          rw path all;
      others = λ m live off. builds.extends.kept m live m (here m);
      makes = makes-gained (Gains-Builds builds);
    }

-- what is left of a list without a place was in it
left-in : (b : Bool) (xs : List ℕ) (i k : ℕ) → 0 < count k (if b then remove xs i else xs) → 0 < count k xs
left-in false xs i k some = some
left-in true xs i k some = let found = left-at xs i k some in count-at xs found.0 k found.2 found.3

-- the child was taken out of its place, with a hold
module _ {T : Type 0} {old mid : Heap T} {parent place root n e : ℕ} (can : CanPushRoot old (child_at old parent place) e) (few : hold_count old < half_holds) (inside : place < length (links_at old parent)) (sole : owners_at old parent ≡ 1) (apart : ¬ Reaches (links_at old) e parent)
    (height : n ≡ height_at old (child_at old parent place)) (packed : IsPacked (form_at old) n (child_at old parent place)) (is : root ≡ child_at old parent place)
    (writes : Writes old mid parent (head_of (row_at old parent)) (remove (links_at old parent) place)) (owners : KeepsOwners old mid) (change : Changes parent old mid [] (root ∷ []) 0 0) (makes : Makes old mid 0 0) where
  linked : HasLink (links_at old) parent root
  linked = count-at (links_at old parent) place root inside (sym is)

  off-root : ¬ Reaches (links_at old) root parent
  off-root = IsGraph-acyclic old can.graph parent root linked

  keeps-off : (l : ℕ) → ¬ Reaches (links_at old) l parent → KeepsBelow old mid l
  keeps-off l off m way = writes.others m (λ same. off (subst (Reaches (links_at old) l) same way))

  good-old : IsGoodVector old root
  good-old = rw is can.good

  vector-out : IsVectorOf mid root (elements old root)
  vector-out = vector-stays T old mid root (keeps-off root off-root) good-old

  height-old : n ≡ height_at old root
  height-old = rw is height

  pub height-out : n ≡ height_at mid root
  height-out = height-old ∙ sym (ap (λ r. form_height (option_map form_of r)) (writes.others root (λ same. off-root (subst (Reaches (links_at old) root) same (here root)))))

  pub packed-out : IsPacked (form_at mid) n root
  packed-out =
      let well : IsWell (form_at old) n root = rw height-old good-old.shape.well in
      let was : IsPacked (form_at old) n root = rw is packed in
      packed-stays (below-stays {old = old} {new = mid} root (keeps-off root off-root)) n root (here root) well was

  pub can-out : CanPushRoot mid root e
  can-out = record {
    graph = change.trades.graph;
    good = vector-out.0;
    short = rw (vector-out.1, is) can.short;
    held = omega (arith, can.held, change.trades.holds e);
    few = omega (arith, few, change.trades.total);
    spare = omega (arith, can.spare, makes.spare_nodes);
  }

  pub held-out : HasHolds mid (root ∷ e ∷ [])
  held-out k = omega (arith, change.trades.holds k, count-one k root, count-cons k root (e ∷ []), one-held e 0 (holds_at old) can.held k)

  live-parent : IsSome (row_at old parent)
  live-parent = linked_live (row_at old parent) root linked

  gains-out : Gains old mid
  gains-out = Gains-Changes change (λ k other live. writes.others k other) makes

  parent-out : IsSome (row_at mid parent)
  parent-out = gains-out.stays parent live-parent

  node-out : is_node (row_at mid parent) ≡ 1
  node-out = node-headed (row_at mid parent) (row_at old parent) writes.new_head (linked-node (row_at old parent) root linked)

  -- a root was made over it
  module _ {made : Heap T} {top : ℕ} (vector : IsVectorOf made top (elements mid root ++ e ∷ [])) (tall : height_at made top ≡ suc n) (fresh : row_at mid top ≡ None) (kept : KeepsOldOwners mid made) (builds : Builds mid made (root ∷ e ∷ []) (top ∷ []) 0 (n + 2)) where
    parent-made : row_at made parent ≡ row_at mid parent
    parent-made = builds.extends.kept parent parent-out parent (here parent)

    pub sole-made : owners_at made parent ≡ 1
    sole-made = kept parent parent-out ∙ owners parent ∙ sole

    pub node-made : is_node (row_at made parent) ≡ 1
    node-made = ap is_node parent-made ∙ node-out

    pub links-made : links_at made parent ≡ remove (links_at old parent) place
    links-made = ap links_of parent-made ∙ writes.new_links

    pub size-made : length (links_at made parent) + 1 ≡ length (links_at old parent)
    size-made = omega (arith, ap length links-made, length-remove (links_at old parent) place inside)

    pub room-made : length (links_at made parent) < 32
    room-made = omega (arith, size-made, can.graph.short parent)

    pub held-made : 0 < holds_at made top
    held-made = gained-held builds held-out

    off-spent : (s : ℕ) → 0 < count s (root ∷ e ∷ []) → ¬ Reaches (links_at mid) s parent
    off-spent s some way = elim (cases_eq s root) as (λ _. ⊥) [
      | inl same ↦ off-root (Reaches-back old mid root parent (keeps-off root off-root) (subst (λ l. Reaches (links_at mid) l parent) same way))
      | inr other ↦ elim (cases_eq s e) as (λ _. ⊥) [
        | inl same ↦ apart (Reaches-back old mid e parent (keeps-off e apart) (subst (λ l. Reaches (links_at mid) l parent) same way))
        | inr neither ↦ absurd (omega (arith, some, count-cons s root (e ∷ []), count-one s e, test_other s root other, test_other s e neither))
      ]
    ]

    pub apart-made : ¬ Reaches (links_at made) top parent
    apart-made way = let up = new-reach mid made (root ∷ e ∷ []) (top ∷ []) 0 (n + 2) kept builds top parent fresh parent-out way in off-spent up.0 up.1 up.2

    -- it took the place
    module _ {new : Heap T} (writes' : Writes made new parent (head_of (row_at made parent)) (insert (links_at made parent) place top)) (change' : Changes parent made new (top ∷ []) [] 0 0) (makes' : Makes made new 0 0) where
      links-new : links_at new parent ≡ set (links_at old parent) place top
      links-new = writes'.new_links ∙ ap (λ (xs : List ℕ). insert xs place top) links-made ∙ insert-removed (links_at old parent) place top inside

      pub top-new : child_at new parent place ≡ top
      top-new = ap (λ (xs : List ℕ). get_or xs place 0) links-new ∙ get_or-set_same (links_at old parent) place top 0 inside

      gains-new : Gains old new
      gains-new = Gains-trans gains-out (Gains-trans (Gains-Builds builds) (Gains-Changes change' (λ k other live. writes'.others k other) makes'))

      changes-new : Changes parent old new (e ∷ []) [] 0 (n + 2)
      changes-new =
          let built : Changes parent mid made (root ∷ e ∷ []) (top ∷ []) 0 (n + 2) = Changes-Builds parent change.trades.graph (λ k up one. kept k (above_live mid k parent up parent-out) ∙ one) builds in
          Changes-more 0 (n + 2) (Changes-then (Changes-follow (root ∷ []) [] [] (e ∷ []) (top ∷ []) change built) change') (omega arith) (omega arith)

      vector-new : IsVectorOf new top (elements old (child_at old parent place) ++ e ∷ [])
      vector-new =
          let keeps : KeepsBelow made new top = λ m way. writes'.others m (λ same. apart-made (subst (Reaches (links_at made) top) same way)) in
          let later : IsVectorOf new top (elements made top) = vector-stays T made new top keeps vector.0 in
          (later.0, later.1 ∙ vector.1 ∙ ap (λ (xs : List ℕ). xs ++ e ∷ []) (vector-out.1 ∙ ap (elements old) is))

      tall-new : height_at new top ≡ suc n
      tall-new = ap (λ r. form_height (option_map form_of r)) (writes'.others top (λ same. apart-made (subst (Reaches (links_at made) top) same (here top)))) ∙ tall

      count-new : live_count new ≤ live_count old + length (right_spine (form_at new) top)
      count-new = omega (arith, makes.live, builds.makes.live, builds.few_cells, builds.few_nodes, makes'.live, spine-length (form_at new) (height_at new top) top, tall-new)

      -- each row that was there is the same, but the parent's links
      rows-new : (m : ℕ) → IsSome (row_at old m) → row_at new m ≡ with_root (by_place parent place) top m (row_at old m)
      rows-new m live = elim (cases_eq m parent) as (λ _. row_at new m ≡ with_root (by_place parent place) top m (row_at old m)) [
        | inl same ↦
            let test : (m == parent) ≡ true = grind (arith, nat_tests, same) in
            let heads : head_of (row_at new parent) ≡ head_of (row_at old parent) = writes'.new_head ∙ ap head_of parent-made ∙ writes.new_head in
            let at : row_at new m ≡ relinked place top (row_at old m) =
            subst (λ j. row_at new j ≡ relinked place top (row_at old j)) (sym same) (relinked-is (row_at old parent) (row_at new parent) place top (omega (arith, inside)) heads links-new) in
            at ∙ sym (ap (λ (b : Bool). if b then relinked place top (row_at old m) else row_at old m) test)
        | inr other ↦
            let test : (m == parent) ≡ false = grind (arith, nat_tests, other) in
            let stays : IsSome (row_at mid m) = gains-out.stays m live in
            writes'.others m other ∙ builds.extends.kept m stays m (here m) ∙ writes.others m other ∙ sym (ap (λ (b : Bool). if b then relinked place top (row_at old m) else row_at old m) test)
      ]

      live-beside : (l m : ℕ) → Reaches (links_beside old (by_place parent place)) l m → IsSome (row_at old l) → IsSome (row_at old m)
      live-beside l m (here k) live = live
      live-beside l m (below k j z has rest) live = live-beside j m rest (can.graph.closed k j (left-in (k == parent) (links_at old k) place j has))

      over-place : IsRootOver made n root top e → IsRootOver new n (child_at old parent place) top e
      over-place over =
          let keeps : KeepsBelow made new top = λ m way. writes'.others m (λ same. apart-made (subst (Reaches (links_at made) top) same way)) in
          let has : HasLink (links_at made) top over.0 = rw over.1 (count-at (root ∷ over.0 ∷ []) 1 over.0 (omega arith) refl) in
          (over.0, ap links_of (keeps top (here top)) ∙ over.1 ∙ ap (λ (l : ℕ). l ∷ over.0 ∷ []) is, seq-stays (below-stays {old = made} {new = new} top keeps) n over.0 (below top over.0 over.0 has (here over.0)) ∙ over.2)

      pub pushes-place : IsRootOver made n root top e → PushesRoot (by_place parent place) old new top e
      pushes-place over =
          let size : n + 2 ≤ height_at old (child_at old parent place) + 2 = omega (arith, height) in
          let path : push_path (form_at old) (child_at old parent place) ≡ [] = rw (← height) (path-packed (form_at old) n (child_at old parent place) packed) in
          let changes : Changes parent old new (e ∷ []) [] 0 (height_at old (child_at old parent place) + 2) = Changes-more 0 (height_at old (child_at old parent place) + 2) changes-new (omega arith) size in
          record {
            pushes = record {
              vector = vector-new;
              rule = over-rule old new height packed tall-new (over-place over);
              edits = record { beside = λ l m some way. rows-new m (live-beside l m way (can.graph.held l (omega (arith, some)))); trades = changes.trades };
              path = rw path (KeepsAlone-none old);
              gains =
                  let all : live_count new + 0 ≤ live_count old + length (right_spine (form_at new) top) = omega (arith, count-new) in
                  rw path all;
              others = λ m live off. rows-new m live;
              makes = makes-gained gains-new;
            };
            up = (changes, top-new);
            gains = gains-new;
          }
