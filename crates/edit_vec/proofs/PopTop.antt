-- A pop of a whole vector.
use Rattle.std.proofs.Common.{◌≡◌, ◌≢◌, ℕ, suc, ◌-◌, ◌+◌, ◌<◌, ◌≤◌, ◌^◌, List, [], ◌∷◌, ◌++◌, length, take, get_or, refl, ap, sym, subst, ◌∙◌, arith, length-append, append-nil, IsSome}
use Rattle.std.specs.Prelude.{slice_index, option_map}
use Rattle.std.specs.List.{All, flat_map}
use Rattle.std.proofs.lemmas.List.{get_or_at, get_or-take, length-take-le}
use Rattle.node_heap.specs.Links.{count, HasLink, Reaches, here}
use Rattle.node_heap.specs.Forms.{form_of, links_of, links_in}
use Rattle.node_heap.specs.Heap.{Heap, row_at, form_at, links_at, holds_at, hold_count, one_at, IsGraph, half_holds}
use Rattle.node_heap.specs.Calls.{KeepsBelow, SameRows, Makes, Releases}
use Rattle.node_heap.specs.InPlace.{child_at, other_at}
use Rattle.node_heap.specs.declared.owner.Owner.TheVariants.{Hold as by_hold}
use Rattle.node_heap.specs.Owner.{alone, KeepsAlone}
use Rattle.node_heap.proofs.Counts.{test_same, test_other}
use Rattle.node_heap.proofs.BuildLemmas.{count-cons}
use Rattle.node_heap.proofs.Frames.{KeepsBelow-trans, Balances-trans, Balances-Makes, Balances-Releases}
use Rattle.node_heap.proofs.GraphLemmas.{IsGraph-acyclic}
use Rattle.node_heap.proofs.Edited.{count-at}
use Rattle.rrb_core.specs.Seq.{seq_at, IsThick, IsWell}
use Rattle.rrb_core.specs.Vector.{elements, height_at, HasSums, IsGoodVector, IsVectorOf}
use Rattle.rrb_core.specs.Push.{last_in}
use Rattle.rrb_core.specs.Build.{IsRowOf}
use Rattle.rrb_core.proofs.ClosedRows.{Stays}
use Rattle.rrb_core.proofs.FillRule.{thick-links, height-is}
use Rattle.rrb_core.proofs.Stays.{links-form, well-stays, seq-stays, row-stays, below-stays}
use Rattle.rrb_core.proofs.RowLists.{IsOver, over, IsChild, child-at, at-place, take-thick, good-row}
use Rattle.node_heap.proofs.AloneLemmas.{KeepsAlone-none, alone-copied}
use Rattle.node_heap.proofs.OwnerLemmas.{EditsBy-more}
use Rattle.edit_vec.specs.Path.{spine_at, pop_path}
use Rattle.edit_vec.specs.Edit.{PopsElement}
use Rattle.edit_vec.specs.Steps.{pop_rows, LeavesChild, LeavesFirst, CanPop, PopsIn}
use Rattle.edit_vec.proofs.PopPath.{pop_tail, is-last, rows-first, tail-same, tail-stays, tail-linked, pop-goes, pop-stays}
use Rattle.node_heap.proofs.OwnedRows.{IsOwned}
use Rattle.edit_vec.proofs.TopLemmas.{stays-owned, row-is, row-owned, wide-owned, path-owned, off-owned}
use Rattle.edit_vec.proofs.KeptLemmas.{leaf-of}
use Rattle.edit_vec.proofs.PopLemmas.{room-trans, room-makes, room-released}

-- a root of height 1 or more is an inner row
pub root-over : {T : Type 0} (h : Heap T) (n root : ℕ) → IsGoodVector h root → n ≡ height_at h root → 1 ≤ n → IsOver h (n - 1) root
root-over h n root good tall some =
    let up : suc (n - 1) ≡ n = omega (arith, some) in
    over h (n - 1) root (rw (up, tall) good.shape.well) (rw (up, tall) good.sums)

pub record IsRootChild {T : Type 0} (h : Heap T) (n root child : ℕ) : Type 0 where
  pub well : IsWell (form_at h) (n - 1) child
  pub sums : HasSums h (n - 1) child
  pub short : length (seq_at (form_at h) (n - 1) child) < 2 ^ 32

-- one of its children
pub root-child : {T : Type 0} (h : Heap T) (n root i child : ℕ) (ls : List ℕ) → IsGoodVector h root → n ≡ height_at h root → 1 ≤ n → ls ≡ links_at h root → i < length ls → child ≡ get_or ls i child → IsRootChild h n root child
root-child h n root i child ls good tall some same lt is =
    let up : suc (n - 1) ≡ n = omega (arith, some) in
    let o = root-over h n root good tall some in
    let at = child-at h (n - 1) root i child o (omega (arith, lt, ap length same)) (at-place ls (links_at h root) i child is same (omega (arith, lt, ap length same))) in
    let all : length (seq_at (form_at h) (suc (n - 1)) root) < 2 ^ 32 = rw (up, tall) good.shape.short in
    record { well = at.well; sums = at.sums; short = omega (arith, at.short, all) }

-- the last element of a list and those before it
last-of : (xs front : List ℕ) (x : ℕ) → xs ≡ front ++ x ∷ [] → (take (length xs - 1) xs ≡ front) × (x ≡ slice_index xs (length xs - 1))
last-of xs front x is =
    let size : length xs - 1 ≡ length front = omega (arith, ap length is, length-append front (x ∷ [])) in
    (rw (size, is) (take-front front (x ∷ [])), sym (rw (size, is) (get_or_at front x [] 0 (length front) refl)))
  where
    take-front : (ys zs : List ℕ) → take (length ys) (ys ++ zs) ≡ ys
    take-front [] zs = refl
    take-front (y ∷ ys) zs = ap (λ (ws : List ℕ). y ∷ ws) (take-front ys zs)

two-items : (f : ℕ → List ℕ) (ks : List ℕ) → length ks ≡ 2 → flat_map f ks ≡ f (get_or ks 0 0) ++ f (get_or ks 1 0)
two-items f [] e = absurd (omega (arith, e))
two-items f (k ∷ []) e = absurd (omega (arith, e))
two-items f (k ∷ j ∷ []) e = ap (λ (xs : List ℕ). f k ++ xs) (append-nil (f j))
two-items f (k ∷ j ∷ i ∷ ks) e = absurd (omega (arith, e))

pub two-children : {T : Type 0} (h : Heap T) (n root : ℕ) → LeavesChild (form_at h) n root → length (links_at h root) ≡ 2
two-children h n root goes = rw (links-form h root) at goes.1

-- the root goes
module _ {T : Type 0} {old : Heap T} {n root first given last : ℕ} (graph : IsGraph old) (good : IsGoodVector old root) (tall : n ≡ height_at old root) (goes : LeavesChild (form_at old) n root) (first_is : first ≡ child_at old root 0) (last_is : last ≡ child_at old root 1) (given_is : seq_at (form_at old) (n - 1) last ≡ given ∷ []) where
  under : IsOver old (n - 1) root
  under = root-over old n root good tall goes.0

  both : length (links_at old root) ≡ 2
  both = two-children old n root goes

  the-first : IsChild old (n - 1) root first
  the-first = child-at old (n - 1) root 0 first under (omega (arith, both)) first_is

  the-last : IsChild old (n - 1) root last
  the-last = child-at old (n - 1) root 1 last under (omega (arith, both)) last_is

  pub first-live : IsSome (row_at old first)
  first-live = the-first.live

  pub given-live-root : IsSome (row_at old given)
  given-live-root =
      let at = leaf-of old (n - 1) last given the-last.well (rw given_is (omega (arith, count-one given))) in
      graph.closed at.0 given at.2
    where
      count-one : (x : ℕ) → 0 < count x (x ∷ [])
      count-one x = count-at (x ∷ []) 0 x (omega arith) refl

  parts : elements old root ≡ seq_at (form_at old) (n - 1) first ++ given ∷ []
  parts =
      let up : suc (n - 1) ≡ n = omega (arith, goes.0) in
      let all : seq_at (form_at old) n root ≡ flat_map (seq_at (form_at old) (n - 1)) (links_at old root) = rw up at under.items in
      ap (λ (m : ℕ). seq_at (form_at old) m root) (sym tall) ∙ all ∙ two-items (seq_at (form_at old) (n - 1)) (links_at old root) both ∙ rw (← first_is, ← last_is, given_is) refl

  not-root : first ≢ root
  not-root same = IsGraph-acyclic old graph root first (count-at (links_at old root) 0 first (omega (arith, both)) (sym first_is)) (subst (λ j. Reaches (links_at old) j root) (sym same) (here root))

  thick-first : IsThick (form_at old) (n - 1) first
  thick-first =
      let ks : List ℕ = links_at old root in
      let is : get_or (take 1 ks) 0 0 ≡ first = get_or-take 1 ks 0 0 (omega arith) ∙ sym first_is in
      rw is at (take-thick old (n - 1) 1 ks under.rows (omega (arith, both)) 0 0 (omega (arith, length-take-le 1 ks (omega (arith, both)))))

  -- its first child and the element are held, and it is let go
  module _ {held next new : Heap T} (rows : SameRows old held) (holds : (k : ℕ) → holds_at held k ≡ holds_at old k + one_at first k) (makes : Makes old held 0 0) (count_is : hold_count held ≡ hold_count old + 1)
      (rows' : SameRows held next) (holds' : (k : ℕ) → holds_at next k ≡ holds_at held k + one_at given k) (makes' : Makes held next 0 0) (count_is' : hold_count next ≡ hold_count held + 1)
      (graph' : IsGraph new) (rel : Releases next new root) (below_kept : (l : ℕ) → IsSome (row_at new l) → KeepsBelow next new l) where
    left-of : (k : ℕ) → holds_at new k + one_at root k ≡ holds_at old k + (one_at first k + one_at given k)
    left-of k = omega (arith, rel.holds k, holds' k, holds k)

    stays : (l : ℕ) → 0 < holds_at new l → KeepsBelow old new l
    stays l some = KeepsBelow-trans old next new l (λ m way. rows' m ∙ rows m) (below_kept l (graph'.held l some))

    down : KeepsBelow old new first
    down = stays first (omega (arith, left-of first, test_other first root not-root, test_same first first refl))

    vector : IsVectorOf new first (seq_at (form_at old) (n - 1) first)
    vector =
        let row : IsRowOf new (n - 1) first (seq_at (form_at old) (n - 1) first) = row-stays (below-stays first down) (n - 1) first (seq_at (form_at old) (n - 1) first) (here first) (record { well = the-first.well; sums = the-first.sums; items = refl }) in
        let wide : length (links_at new first) ≡ length (links_in (form_at old) first) = ap (λ w. length (links_of w)) (down first (here first)) ∙ sym (ap length (links-form old first)) in
        good-row new (n - 1) first (seq_at (form_at old) (n - 1) first) row (omega (arith, tall, good.shape.low)) (λ _. omega (arith, wide, thick-links (form_at old) (n - 1) first thick-first)) (omega (arith, good.shape.short, ap length parts, length-append (seq_at (form_at old) (n - 1) first) (given ∷ [])))

    pub leaves-first : LeavesFirst old new root given
    leaves-first =
        let ends = last-of (elements old root) (seq_at (form_at old) (n - 1) first) given parts in
        record {
          vector = rw (← first_is, ends.0) vector;
          back = ends.1;
          edits = rw (← first_is) (record {
            beside = λ l m some way. stays l (omega (arith, some, left-of l)) m way;
            trades = record {
              graph = graph';
              holds = λ k. omega (arith, left-of k, count-cons k root [], count-cons k first (given ∷ []), count-cons k given []);
              total = omega (arith, rel.count, count_is', count_is);
              cells = omega (arith, rel.fewer_cells, makes'.cells, makes.cells);
              nodes = omega (arith, rel.fewer_nodes, makes'.nodes, makes.nodes);
              balance = Balances-trans (Balances-Makes makes) (Balances-trans (Balances-Makes makes') (Balances-Releases rel));
              made = omega (arith, rel.made, makes'.made, makes.made);
            };
          });
          same = λ m live live'. rel.same m live' ∙ rows' m ∙ rows m;
          made = omega (arith, rel.made, makes'.made, makes.made);
          room = room-trans (room-makes makes) (room-trans (room-makes makes') (room-released rel));
        }

-- that is a pop
pub pops-child : {T : Type 0} {old new : Heap T} {n root given : ℕ} → IsGoodVector old root → n ≡ height_at old root → LeavesChild (form_at old) n root → LeavesFirst old new root given → PopsElement (by_hold root) old new (child_at old root 0) given
pops-child {T} {old} {new} {n} {root} {given} good tall goes left =
    let none : pop_path (form_at old) root ≡ [] = pop-goes (form_at old) n root tall (rw tall good.shape.well) goes in
    record {
      vector = left.vector;
      back = left.back;
      edits = EditsBy-more 0 (height_at old root + 1) left.edits (omega arith) (omega arith);
      path = rw none (KeepsAlone-none old);
      others = λ m live live' off. left.same m live live';
      made = omega (arith, left.made);
    }

-- the root stays, or a copy of it
module _ {T : Type 0} {first mid : Heap T} {root r n : ℕ} (o : IsOwned (by_hold root) first mid r) (good : IsGoodVector first root) (tall : n ≡ height_at first root) where
  below : Stays (Reaches (links_at first) root) first mid
  below = stays-owned o good tall

  row : IsRowOf mid n r (elements first root)
  row = row-owned o good tall

  well : IsWell (form_at first) n root
  well = rw tall good.shape.well

  pub enough-mid : 1 ≤ length (elements first root) → 1 ≤ length (seq_at (form_at mid) n r)
  enough-mid some = rw row.items some

  pub more-mid : 1 ≤ n → 2 ≤ length (seq_at (form_at mid) n r)
  more-mid up =
      let inner = root-over first n root good tall up in
      let down : suc (n - 1) ≡ n = omega (arith, up) in
      let last = is-last (form_at first) (n - 1) root (rw down well) in
      let size : length (links_in (form_at first) root) ≤ length (seq_at (form_at first) n root) = rw down at last.wide in
      rw row.items (omega (arith, size, ap (λ (m : ℕ). length (seq_at (form_at first) m root)) tall, good.shape.two (omega (arith, up, tall))))

  pub can-pop-root : IsGraph mid → hold_count mid < half_holds → CanPop mid n r
  can-pop-root graph few = record {
    graph = graph;
    well = row.well;
    sums = row.sums;
    low = omega (arith, tall, good.shape.low);
    short = rw row.items good.shape.short;
    sole = o.sole;
    holds = few;
  }

  module _ (some : 1 ≤ length (elements first root)) (stays : ¬ LeavesChild (form_at first) n root) where
    enough : 1 ≤ length (seq_at (form_at first) n root)
    enough = rw tall some

    abbrev tail : List ℕ
    tail = pop_tail (form_at first) n root

    rows-root : pop_path (form_at first) root ≡ root ∷ tail
    rows-root = pop-stays (form_at first) n root tall well enough stays ∙ rows-first (form_at first) n root well enough

    rows-mid : pop_rows (form_at mid) n r ≡ r ∷ tail
    rows-mid =
        rows-first (form_at mid) n r row.well (enough-mid some)
        ∙ ap (λ (xs : List ℕ). r ∷ xs) (tail-same (form_at mid) n r root (ap (option_map form_of) (row-is o good tall)) ∙ tail-stays below n root (here root) well (well-stays below n root (here root) well))

    next : 1 ≤ length tail → HasLink (links_at first) root (get_or tail 0 0)
    next many = tail-linked first n root well many

    stays-mid : ¬ LeavesChild (form_at mid) n r
    stays-mid goes =
        let form : form_at mid r ≡ form_at first root = ap (option_map form_of) o.row_same in
        let links : links_in (form_at mid) r ≡ links_in (form_at first) root = ap links_of form in
        let both : length (links_in (form_at first) root) ≡ 2 = sym (ap length links) ∙ goes.1 in
        let last : last_in (form_at mid) r ≡ last_in (form_at first) root = ap (λ (xs : List ℕ). slice_index xs (length xs - 1)) links in
        let named : All (Reaches (links_at first) root) (links_in (form_at first) root) = rw (links-form first root) (below.closed root (here root)) in
        let there : Reaches (links_at first) root (last_in (form_at first) root) = named (length (links_in (form_at first) root) - 1) 0 (omega (arith, both)) in
        stays (goes.0, both, sym (ap length (seq-stays below (n - 1) (last_in (form_at first) root) there)) ∙ rw last at goes.2)

    pub pops-root : {new : Heap T} {given : ℕ} → mid.made ≤ first.made + other_at root r → PopsIn mid new n r given → PopsElement (by_hold root) first new r given
    pops-root {new} {given} cost sub =
        let parts : elements first root ≡ sub.left ++ given ∷ [] = sym row.items ∙ sub.was in
        let ends = last-of (elements first root) sub.left given parts in
        let height : height_at new r ≡ n = height-is (form_at new) n r sub.row.well in
        let kept : List ℕ = take (length (r ∷ tail)) (spine_at (form_at new) n r) in
        let was : KeepsAlone mid (r ∷ tail) kept = rw rows-mid at sub.path in
        let fewer : new.made ≤ mid.made + (length (r ∷ tail) - alone mid (r ∷ tail)) = rw rows-mid at sub.made in
        record {
          vector = rw ends.0 (good-row new n r sub.left sub.row (omega (arith, tall, good.shape.low)) (λ up. sub.two up (omega (arith, wide-owned o good tall, good.shape.two (omega (arith, up, tall)))) stays-mid) (omega (arith, good.shape.short, ap length parts, length-append sub.left (given ∷ []))));
          back = ends.1;
          edits = EditsBy-more 0 (height_at first root + 1) (o.edits new [] (given ∷ []) 0 n sub.changes) (omega arith) (omega (arith, tall));
          path = rw (rows-root, height) (path-owned o good tall tail next kept was);
          others = λ m live live' off.
              let both = off-owned o good tall tail next m live (rw rows-root at off) in
              sub.others m (o.live m live) live' (rw rows-mid both.1) ∙ o.kept m both.0 live;
          made = rw rows-root (omega (arith, fewer, cost, alone-copied first mid root r tail o.same o.sole o.owners));
        }
