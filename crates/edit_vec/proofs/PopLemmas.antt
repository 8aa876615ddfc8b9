-- A row that loses its last child, which has one element, and a leaf that loses its last element.
use Rattle.std.proofs.Common.{◌≡◌, ◌≢◌, ℕ, suc, ◌-◌, ◌+◌, ◌<◌, ◌≤◌, List, [], ◌∷◌, ◌++◌, length, take, drop, get_or, refl, ap, sym, subst, ◌∙◌, arith, append-nil, Some, IsSome, inl, inr}
use Rattle.std.specs.Prelude.{remove}
use Rattle.std.specs.List.{All, flat_map}
use Rattle.std.proofs.Common.{take-append-drop}
use Rattle.std.proofs.lemmas.Bool.{cases_eq}
use Rattle.std.proofs.lemmas.List.{drop_all, drop_more, length-take-le}
use Rattle.std.proofs.lemmas.List.Elements.{All-take}
use Rattle.node_heap.specs.Links.{count, HasLink, Reaches, here, below}
use Rattle.node_heap.specs.Forms.{node, leaf, inner, links_of, links_in, head_of}
use Rattle.node_heap.specs.Heap.{Heap, row_at, form_at, links_at, holds_at, owners_at, hold_count, one_at, IsGraph}
use Rattle.node_heap.specs.declared.row.Head.TheVariants.{Inner}
use Rattle.node_heap.specs.Calls.{KeepsOwners, KeepsBelow, SameRows, AddsOwner, Makes, Releases, Extends, KeepsToNeed}
use Rattle.node_heap.specs.InPlace.{child_at, Writes, Changes}
use Rattle.node_heap.specs.Owner.{written, KeepsAlone}
use Rattle.node_heap.proofs.Counts.{count-cons, test_same}
use Rattle.node_heap.proofs.BuildLemmas.{Builds-hold}
use Rattle.node_heap.proofs.Reach.{Reaches-then, Reaches-trans}
use Rattle.node_heap.proofs.Frames.{KeepsBelow-trans}
use Rattle.node_heap.proofs.GraphLemmas.{IsGraph-acyclic}
use Rattle.node_heap.proofs.Edited.{count-at, Reaches-back, Changes-follow, Changes-more}
use Rattle.node_heap.proofs.EditLaws.{Changes-hold, Changes-Releases}
use Rattle.node_heap.proofs.AloneLemmas.{written-cons, KeepsAlone-none, KeepsAlone-cons}
use Rattle.rrb_core.specs.Seq.{height_in, seq_at, IsWell}
use Rattle.rrb_core.specs.Vector.{KeepsSums, HasSums}
use Rattle.rrb_core.specs.Push.{last_in}
use Rattle.rrb_core.specs.Build.{IsRowOf, AreRows}
use Rattle.rrb_core.proofs.ClosedRows.{Stays}
use Rattle.rrb_core.proofs.FillRule.{seq-leaf}
use Rattle.rrb_core.proofs.LinkCounts.{all-counted}
use Rattle.rrb_core.proofs.Lists.{items-cut}
use Rattle.rrb_core.proofs.Stays.{links-form, well-live, well-stays, seq-stays, items-stay, rows-stay, row-stays, keeps-stay, below-stays}
use Rattle.rrb_core.proofs.RowLists.{IsOver, over, rows-take}
use Rattle.edit_vec.specs.Path.{spine_at}
use Rattle.edit_vec.specs.Steps.{pop_rows, CanPop, PopsIn, KeepsRoom}
use Rattle.edit_vec.proofs.RowLemmas.{form-rewritten}
use Rattle.edit_vec.proofs.PathLemmas.{spine-below}
use Rattle.edit_vec.proofs.PopPath.{rows-first, tail-single, is-last}
use Rattle.edit_vec.proofs.KeptLemmas.{leaf-of}
use Rattle.edit_vec.proofs.GrowLemmas.{row-headed, stays-under, all-under}

-- steps that keep room
pub room-trans : {T : Type 0} {old mid new : Heap T} → KeepsRoom old mid → KeepsRoom mid new → KeepsRoom old new
room-trans one two = record { cells = two.cells ∙ one.cells; nodes = two.nodes ∙ one.nodes }

pub room-makes : {T : Type 0} {old new : Heap T} {c n : ℕ} → Makes old new c n → KeepsRoom old new
room-makes makes = record { cells = omega (arith, makes.spare_cells, makes.cells); nodes = omega (arith, makes.spare_nodes, makes.nodes) }

pub room-released : {T : Type 0} {old new : Heap T} {link : ℕ} → Releases old new link → KeepsRoom old new
room-released rel = record { cells = rel.cells; nodes = rel.nodes }

pub needs-kept : {T : Type 0} {old new : Heap T} → KeepsRoom old new → KeepsToNeed old new 0 0
needs-kept room = record { few_cells = omega (arith, room.cells); few_nodes = omega (arith, room.nodes) }

-- the path of a row that stays, and of no row behind it
pub path-alone : {T : Type 0} (old new : Heap T) (n l : ℕ) → owners_at old l ≡ 1 → KeepsAlone old (l ∷ []) (take 1 (spine_at (form_at new) n l))
path-alone old new n l one = rw (spine-below (form_at new) n l) (KeepsAlone-cons old l [] [] one (KeepsAlone-none old))

pub off-alone : {T : Type 0} (old : Heap T) (m l : ℕ) → owners_at old l ≡ 1 → count m (written old (l ∷ [])) ≡ 0 → m ≢ l
off-alone old m l one off e =
    let single : count m (l ∷ []) ≡ 0 = rw (written-cons old l [] one) at off in
    absurd (omega (arith, single, count-cons m l [], test_same l m (sym e)))

-- the last child is out of the row
module _ {T : Type 0} {old mid : Heap T} {n row place child : ℕ} (can : CanPop old (suc n) row) (two : 2 ≤ length (links_at old row)) (one : length (seq_at (form_at old) n (last_in (form_at old) row)) ≡ 1) (is : place ≡ length (links_at old row) - 1) (child_is : child ≡ child_at old row place)
    (writes : Writes old mid row (head_of (row_at old row)) (remove (links_at old row) place)) (changes : Changes row old mid [] (child ∷ []) 0 0) (kept : KeepsOwners old mid) where
  abbrev ks : List ℕ
  ks = links_at old row

  under : IsOver old n row
  under = over old n row can.well can.sums

  inside : place < length ks
  inside = omega (arith, is, two)

  linked : HasLink (links_at old) row child
  linked = count-at ks place child inside (sym child_is)

  off-child : ¬ Reaches (links_at old) child row
  off-child = IsGraph-acyclic old can.graph row child linked

  pub links-left : links_at mid row ≡ take place ks
  links-left = writes.new_links ∙ rw (drop_all (suc place) ks (omega (arith, is, two)), append-nil) refl

  apart-stays : Stays (λ m. ¬ Reaches (links_at old) m row) old mid
  apart-stays = record {
    closed = λ l off. all-counted (λ m. ¬ Reaches (links_at old) m row) (links_at old l) (λ j some up. off (below l j row some up));
    kept = λ m off. writes.others m (λ same. off (subst (λ j. Reaches (links_at old) j row) (sym same) (here row)));
  }

  off-front : All (λ m. ¬ Reaches (links_at old) m row) (take place ks)
  off-front = All-take (λ m. ¬ Reaches (links_at old) m row) place ks (all-counted (λ m. ¬ Reaches (links_at old) m row) ks (λ j some. IsGraph-acyclic old can.graph row j some))

  rows-left : AreRows mid n (links_at mid row)
  rows-left = rw links-left (rows-stay apart-stays n (take place ks) off-front (rows-take old n place ks under.rows (omega (arith, inside))))

  size-left : length (links_at mid row) ≡ length ks - 1
  size-left = omega (arith, ap length links-left, length-take-le place ks (omega (arith, inside)), is)

  abbrev left : List ℕ
  left = flat_map (seq_at (form_at old) n) (take place ks)

  items-left : flat_map (seq_at (form_at mid) n) (links_at mid row) ≡ left
  items-left = rw links-left (items-stay apart-stays n (take place ks) off-front)

  parts : seq_at (form_at old) (suc n) row ≡ left ++ seq_at (form_at old) n child
  parts =
      let f : ℕ → List ℕ = seq_at (form_at old) n in
      let none : drop (place + 1) ks ≡ [] = drop_all (place + 1) ks (omega (arith, is, two)) in
      let cut : flat_map f ks ≡ left ++ (f (get_or ks place 0) ++ flat_map f (drop (place + 1) ks)) = items-cut f ks place inside in
      under.items ∙ rw (none, append-nil, ← child_is) at cut

  pub sole-left : owners_at mid row ≡ 1
  sole-left = kept row ∙ can.sole

  pub form-left : form_at mid row ≡ Some (node (inner (suc n)) (links_at mid row))
  unfolding IsWell
  form-left = form-rewritten (row_at old row) (row_at mid row) (inner (suc n)) (links_in (form_at old) row) writes.new_head can.well.kind

  well-child : IsWell (form_at old) n child
  well-child = rw child_is (under.rows.well place 0 inside)

  last-child : last_in (form_at old) row ≡ child
  last-child = rw (links-form old row, ← is, ← child_is) refl

  one-child : length (seq_at (form_at old) n child) ≡ 1
  one-child = rw last-child at one

  -- its head is written
  module _ {next : Heap T} {height : ℕ} {ss : List ℕ} (tall : height ≡ suc n) (sums : KeepsSums (form_at old) n (take (length (links_at old row) - 1) (links_at old row)) ss) (writes' : Writes mid next row (Some (Inner height ss)) (links_at mid row))
      (changes' : Changes row mid next [] [] 0 0) (kept' : KeepsOwners mid next) where
    sums-left : KeepsSums (form_at mid) n (links_at mid row) ss
    sums-left = rw links-left (keeps-stay apart-stays n (take place ks) ss off-front (rw is sums))

    row-next : IsRowOf next (suc n) row left
    row-next = row-headed changes.trades.graph writes' tall rows-left (omega (arith, size-left, two)) (omega (arith, size-left, under.most)) (keeps-stay (stays-under changes.trades.graph writes') n (links_at mid row) ss (all-under changes.trades.graph writes') sums-left) items-left

    child-kept : KeepsBelow old next child
    child-kept m way =
        let other : m ≢ row = λ same. off-child (subst (Reaches (links_at old) child) same way) in
        writes'.others m other ∙ writes.others m other

    child-stays : Stays (Reaches (links_at old) child) old next
    child-stays = below-stays child child-kept

    pub well-next : IsWell (form_at next) n child
    well-next = well-stays child-stays n child (here child) well-child

    pub one-next : length (seq_at (form_at next) n child) ≡ 1
    one-next = ap length (seq-stays child-stays n child (here child)) ∙ one-child

    off-next : ¬ Reaches (links_at next) child row
    off-next way = off-child (Reaches-back old next child row child-kept way)

    pub held-child : 0 < holds_at next child
    held-child = omega (arith, changes'.trades.holds child, changes.trades.holds child, count-cons child child [], test_same child child refl)

    -- the element is held, and the child let go
    module _ {given : ℕ} (given_is : seq_at (form_at next) n child ≡ given ∷ []) where
      given-under : (q : ℕ) × Reaches (links_at next) child q × HasLink (links_at next) q given × (height_in (form_at next) q ≡ 0)
      given-under = leaf-of next n child given well-next (rw given_is (omega (arith, count-cons given given [], test_same given given refl)))

      pub given-live : IsSome (row_at next given)
      given-live = changes'.trades.graph.closed given-under.0 given given-under.2

      off-given : ¬ Reaches (links_at next) given row
      off-given way = off-next (Reaches-trans (links_at next) child given row (Reaches-then (links_at next) child given-under.0 given given-under.1 given-under.2) way)

      was-old : seq_at (form_at old) (suc n) row ≡ left ++ given ∷ []
      was-old = parts ∙ ap (λ xs. left ++ xs) (sym (seq-stays child-stays n child (here child)) ∙ given_is)

      rows-one : pop_rows (form_at old) (suc n) row ≡ row ∷ []
      rows-one =
          let last = is-last (form_at old) n row can.well in
          rows-first (form_at old) (suc n) row can.well (omega (arith, last.some, last.wide)) ∙ ap (λ (xs : List ℕ). row ∷ xs) (tail-single (form_at old) n row one)

      pub drops-last : {held new : Heap T} → Makes old mid 0 0 → Makes mid next 0 0 → IsGraph held → SameRows next held → ((k : ℕ) → holds_at held k ≡ holds_at next k + one_at given k) → AddsOwner next held given → Makes next held 0 0 → hold_count held ≡ hold_count next + 1 → Extends next held
          → IsGraph new → Releases held new child → ((l : ℕ) → IsSome (row_at new l) → KeepsBelow held new l) → PopsIn old new (suc n) row given
      drops-last {held} {new} makes makes' graph rows holds owners makes'' total extends graph' rel below_kept =
          let live : IsSome (row_at next row) = well-live next (suc n) row row-next.well in
          let same : KeepsBelow next held child = λ m way. rows m in
          let off-held : ¬ Reaches (links_at held) child row = λ way. off-next (Reaches-back next held child row same way) in
          let c3 : Changes row next held [] (given ∷ []) 0 0 = Changes-hold row given changes'.trades.graph owners (Builds-hold holds makes'' total graph extends) off-given in
          let c4 : Changes row held new (child ∷ []) [] 0 0 = Changes-Releases held new child graph rel row off-held graph' in
          let c12 : Changes row old next [] (child ∷ []) 0 0 = Changes-follow [] [] (child ∷ []) [] [] changes changes' in
          let c123 : Changes row old held [] (child ∷ given ∷ []) 0 0 = Changes-follow [] [] (child ∷ []) [] (given ∷ []) c12 c3 in
          let all : Changes row old new [] (given ∷ []) 0 0 = Changes-follow (child ∷ []) [] (given ∷ []) [] [] c123 c4 in
          let there : IsSome (row_at new row) = c4.paths.live row (here row) (rw (rows row) live) in
          let down : KeepsBelow next new row = KeepsBelow-trans next held new row (λ m way. rows m) (below_kept row there) in
          let links : links_at new row ≡ links_at mid row = ap links_of (rel.same row there ∙ rows row) ∙ writes'.new_links in
          let depth : suc n - 1 ≡ n = omega arith in
          record {
            left = left;
            was = was-old;
            row = row-stays (below-stays row down) (suc n) row left (here row) row-next;
            two = λ up enough more. elim (cases_eq (length ks) 2) as (λ _. 2 ≤ length (links_at new row)) [
              | inl both ↦ absurd (more (omega arith, ap length (links-form old row) ∙ both, rw depth one))
              | inr other ↦ omega (arith, ap length links, size-left, other, enough)
            ];
            changes = Changes-more 0 (suc n) all (omega arith) (omega arith);
            path = rw rows-one (path-alone old new (suc n) row can.sole);
            others = λ m some some' off.
                let other : m ≢ row = off-alone old m row can.sole (rw rows-one at off) in
                rel.same m some' ∙ rows m ∙ writes'.others m other ∙ writes.others m other;
            made = omega (arith, rel.made, makes''.made, makes'.made, makes.made);
            room = room-trans (room-makes makes) (room-trans (room-makes makes') (room-trans (room-makes makes'') (room-released rel)));
          }

-- a leaf
pub leaf-live : {T : Type 0} {old : Heap T} {row : ℕ} → CanPop old 0 row → IsSome (row_at old row)
leaf-live {T} {old} {row} can = well-live old 0 row can.well

pub leaf-some : {T : Type 0} (old : Heap T) (row : ℕ) → 1 ≤ length (seq_at (form_at old) 0 row) → 1 ≤ length (links_at old row)
leaf-some old row some = omega (arith, some, ap length (seq-leaf (form_at old) 0 row (omega arith)), ap length (links-form old row))

pub pops-leaf : {T : Type 0} {old new : Heap T} {row place given : ℕ} → CanPop old 0 row → 1 ≤ length (seq_at (form_at old) 0 row) → place ≡ length (links_at old row) - 1 → given ≡ child_at old row place
    → Writes old new row (head_of (row_at old row)) (remove (links_at old row) place) → Changes row old new [] (given ∷ []) 0 0 → Makes old new 0 0 → PopsIn old new 0 row given
unfolding IsWell HasSums seq_at
pops-leaf {T} {old} {new} {row} {place} {given} can some is back writes changes makes =
    let ks : List ℕ = links_at old row in
    let enough : 1 ≤ length ks = leaf-some old row some in
    let lt : place < length ks = omega (arith, is, enough) in
    let now : links_at new row ≡ take place ks = writes.new_links ∙ rw (drop_all (suc place) ks (omega (arith, is)), append-nil) refl in
    let form : links_in (form_at new) row ≡ take place ks = links-form new row ∙ now in
    let rows : pop_rows (form_at old) 0 row ≡ row ∷ [] = rows-first (form_at old) 0 row can.well some in
    let wide : length (links_at new row) ≡ length ks - 1 = omega (arith, ap length now, length-take-le place ks (omega (arith, lt)), is) in
    record {
      left = take place ks;
      was = links-form old row ∙ (sym (take-append-drop place ks) ∙ ap (λ (xs : List ℕ). take place ks ++ xs) (drop_more ks place 0 lt ∙ rw (drop_all (place + 1) ks (omega (arith, is)), ← back) refl));
      row = record {
        well = record {
          kind = form-rewritten (row_at old row) (row_at new row) leaf (links_in (form_at old) row) writes.new_head can.well.kind ∙ ap (λ (ls : List ℕ). Some (node leaf ls)) (sym (links-form new row));
          most = omega (arith, ap length form, length-take-le place ks (omega (arith, lt)), can.well.most, ap length (links-form old row), lt);
        };
        sums = tt;
        items = form;
      };
      two = λ up. absurd (omega (arith, up));
      changes = changes;
      path = rw rows (path-alone old new 0 row can.sole);
      others = λ m live live' off. writes.others m (off-alone old m row can.sole (rw rows at off));
      made = omega (arith, makes.made);
      room = room-makes makes;
    }
