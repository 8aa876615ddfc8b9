-- A push to a whole vector by its owner.
use Rattle.node_heap.proofs.AloneLemmas.{alone-own}
use Rattle.std.proofs.Common.{◌≡◌, ◌≢◌, ℕ, zero, suc, ◌-◌, ◌+◌, ◌<◌, ◌≤◌, ◌^◌, List, [], ◌∷◌, ◌++◌, length, take, drop, get_or, refl, ap, sym, ◌∙◌, arith, Bool, true, false, inl, inr, subst}
use Rattle.std.specs.Prelude.{option_map, nat_lt}
use Rattle.std.proofs.lemmas.Bool.Decides.{nat_tests}
use Rattle.std.proofs.lemmas.List.{length-take, length_push}
use Rattle.node_heap.specs.Links.{HasLink, here}
use Rattle.node_heap.specs.Forms.{Forms, form_of, links_in}
use Rattle.node_heap.specs.Heap.{Heap, form_at, links_at, live_count}
use Rattle.node_heap.specs.Calls.{MakesWhatCame}
use Rattle.node_heap.specs.InPlace.{other_at}
use Rattle.node_heap.specs.declared.owner.Owner.{Owner}
use Rattle.node_heap.specs.Owner.{owned, alone, KeepsAlone, WritesOnly}
use Rattle.node_heap.proofs.OwnerLemmas.{EditsBy-more}
use Rattle.rrb_core.specs.Seq.{seq_at, IsWell}
use Rattle.rrb_core.specs.Push.{last_in, IsPacked, IsPushedRoot, IsPushed, into_root}
use Rattle.rrb_core.specs.Vector.{elements, height_at, IsGoodVector}
use Rattle.rrb_core.specs.Build.{IsRowOf}
use Rattle.rrb_core.proofs.FillRule.{height-is}
use Rattle.rrb_core.proofs.Stays.{links-form}
use Rattle.rrb_core.proofs.RowLists.{at-place, good-row}
use Rattle.edit_vec.specs.Path.{keep_or_stop, up_to_last, spine_at, right_spine, push_path}
use Rattle.edit_vec.specs.Edit.{PushesElement}
use Rattle.edit_vec.specs.Steps.{HasRoomAt, PushesIn}
use Rattle.edit_vec.proofs.PathLemmas.{spine_below, spine-below, spine-same, spine-stays}
use Rattle.edit_vec.proofs.PushLemmas.{spine-linked-take, room-same, room-stays, pushed-back, pushed-from}
use Rattle.edit_vec.proofs.OwnLemmas.{down}
use Rattle.node_heap.proofs.OwnedRows.{IsOwned}
use Rattle.edit_vec.proofs.TopLemmas.{stays-owned, row-is, row-owned, wide-owned, path-owned, others-owned}

take-none : (k : ℕ) → take {A = ℕ} k [] ≡ []
take-none zero = refl
take-none (suc k) = refl

-- the path of a push: the front of the right spine down to the lowest row with room
module _ {K : Type 0} (F : Forms K) where
  abbrev pub has-room : ℕ → Bool
  has-room k = nat_lt (length (links_in F k)) 32

  full-row : (k : ℕ) → length (links_in F k) ≡ 32 → has-room k ≡ false
  full-row k is = rw is refl

  open-row : (k : ℕ) → length (links_in F k) < 32 → has-room k ≡ true
  open-row k lt = grind (arith, nat_tests, lt)

  pub path-packed : (n l : ℕ) → IsPacked F n l → up_to_last has-room (spine_at F n l) ≡ []
  unfolding IsPacked
  path-packed zero l f = ap (up_to_last has-room) (spine-below F zero l) ∙ ap (λ (b : Bool). keep_or_stop l b []) (full-row l f)
  path-packed (suc n) l f =
      ap (up_to_last has-room) (spine-below F (suc n) l)
      ∙ ap (keep_or_stop l (has-room l)) (path-packed n (last_in F l) f.1)
      ∙ ap (λ (b : Bool). keep_or_stop l b []) (full-row l f.0)

  pub path-room : (n lowest l : ℕ) → HasRoomAt F n lowest l → up_to_last has-room (spine_at F n l) ≡ l ∷ take (n - lowest) (spine_below F n l)
  unfolding HasRoomAt
  path-room zero lowest l r = ap (up_to_last has-room) (spine-below F zero l) ∙ ap (λ (b : Bool). keep_or_stop l b []) (open-row l r.1) ∙ ap (λ (xs : List ℕ). l ∷ xs) (sym (take-none (0 - lowest)))
  path-room (suc n) lowest l r = elim r as (λ _. up_to_last has-room (spine_at F (suc n) l) ≡ l ∷ take (suc n - lowest) (spine_below F (suc n) l)) [
    | inl at ↦
        let zero_is : suc n - lowest ≡ 0 = omega (arith, at.0) in
        ap (up_to_last has-room) (spine-below F (suc n) l)
        ∙ ap (keep_or_stop l (has-room l)) (path-packed n (last_in F l) at.2)
        ∙ ap (λ (b : Bool). keep_or_stop l b []) (open-row l at.1)
        ∙ ap (λ (k : ℕ). l ∷ take k (spine_below F (suc n) l)) (sym zero_is)
    | inr lower ↦
        let down : suc n - lowest ≡ suc (n - lowest) = omega (arith, lower.0) in
        ap (up_to_last has-room) (spine-below F (suc n) l)
        ∙ ap (keep_or_stop l (has-room l)) (path-room n lowest (last_in F l) lower.1)
        ∙ ap (λ (xs : List ℕ). l ∷ xs) (sym (ap (take (suc (n - lowest))) (spine-below F n (last_in F l))))
        ∙ ap (λ (k : ℕ). l ∷ take k (spine_below F (suc n) l)) (sym down)
  ]

pub spine-length : {K : Type 0} (F : Forms K) (n l : ℕ) → length (spine_at F n l) ≡ suc n
spine-length F zero l = ap length (spine-below F zero l)
spine-length F (suc n) l = ap length (spine-below F (suc n) l) ∙ ap suc (spine-length F n (last_in F l))

-- the room is there once the root is its owner's own
module _ {T : Type 0} {owner : Owner} {old mid : Heap T} {r n : ℕ} (lowest : ℕ) (o : IsOwned owner old mid r) (good : IsGoodVector old (owned old owner)) (height : n ≡ height_at old (owned old owner)) (room : HasRoomAt (form_at old) n lowest (owned old owner)) where
  abbrev root : ℕ
  root = owned old owner

  well-root : IsWell (form_at old) n root
  well-root = rw height good.shape.well

  pub room-owned : HasRoomAt (form_at mid) n lowest r
  room-owned = room-same (form_at mid) n lowest r root (ap (option_map form_of) (row-is o good height)) (room-stays (stays-owned o good height) n lowest root (here root) well-root room)

  pub short-owned : length (elements old root) + 1 < 2 ^ 32 → length (seq_at (form_at mid) n r) + 1 < 2 ^ 32
  short-owned short = rw (row-owned o good height).items short

  -- the element was put into the lowest row with room
  module _ {new : Heap T} {e : ℕ} (short : length (elements old root) + 1 < 2 ^ 32) (sub : PushesIn mid new n lowest r e) where
    row-pushed : IsRowOf new n r (elements old root ++ e ∷ [])
    row-pushed = rw (row-owned o good height).items at sub.row

    abbrev tail : List ℕ
    tail = take (n - lowest) (spine_below (form_at old) n root)

    next : 1 ≤ length tail → HasLink (links_at old) root (get_or tail 0 0)
    next more = spine-linked-take old n root (n - lowest) well-root more

    below-moved : spine_below (form_at mid) n r ≡ spine_below (form_at old) n root
    below-moved =
        spine-same (form_at mid) n r root (ap (option_map form_of) (row-is o good height))
        ∙ ap (drop 1) (sym (spine-below (form_at mid) n root) ∙ spine-stays (stays-owned o good height) n root (here root) well-root ∙ spine-below (form_at old) n root)

    first-moved : take (n - lowest + 1) (spine_at (form_at mid) n r) ≡ r ∷ tail
    first-moved =
        let up : n - lowest + 1 ≡ suc (n - lowest) = omega arith in
        rw (up, spine-below (form_at mid) n r, below-moved) refl

    path-is : push_path (form_at old) root ≡ root ∷ tail
    path-is = rw (← height) (path-room (form_at old) n lowest root room)

    rule-pushed : IsPushedRoot (form_at old) (form_at new) e root r
    rule-pushed =
        let made : height_at new r ≡ n = height-is (form_at new) n r sub.row.well in
        let moved : IsPushed (form_at old) (form_at new) e n root r = pushed-back (stays-owned o good height) n root r (here root) well-root (pushed-from root (ap (option_map form_of) (row-is o good height)) sub.rule) in
        into_root (made ∙ height) (subst (λ k. IsPushed (form_at old) (form_at new) e k root r) height moved)

    path-pushed : KeepsAlone old (push_path (form_at old) root) (take (length (push_path (form_at old) root)) (right_spine (form_at new) r))
    path-pushed =
        let made : height_at new r ≡ n = height-is (form_at new) n r sub.row.well in
        let size : length (push_path (form_at old) root) ≡ n - lowest + 1 =
        omega (arith, ap length path-is, length-take (n - lowest) (spine_below (form_at old) n root), ap length (spine-below (form_at old) n root), spine-length (form_at old) n root) in
        let was : KeepsAlone mid (r ∷ tail) (take (n - lowest + 1) (spine_at (form_at new) n r)) = rw first-moved at sub.path in
        rw (size, path-is, made) (path-owned o good height tail next (take (n - lowest + 1) (spine_at (form_at new) n r)) was)

    others-pushed : WritesOnly owner old new r (push_path (form_at old) root)
    others-pushed =
        let all : WritesOnly owner old new r (root ∷ tail) = others-owned o good height tail next new (λ m live off. sub.others m live (rw first-moved off)) in
        rw path-is all

    gains-pushed : live_count new + alone old (push_path (form_at old) root) ≤ live_count old + length (right_spine (form_at new) r)
    gains-pushed =
        let made : height_at new r ≡ n = height-is (form_at new) n r sub.row.well in
        let size : length (right_spine (form_at new) r) ≡ n + 1 = omega (arith, spine-length (form_at new) (height_at new r) r, made) in
        let below : live_count new + alone mid (r ∷ tail) ≤ live_count mid + (n + 1) = rw first-moved at sub.came in
        let own : alone mid (r ∷ tail) ≡ alone old (root ∷ tail) + other_at root r = alone-own old mid root r tail o.same o.sole o.owners o.graph next in
        let all : live_count new + alone old (root ∷ tail) ≤ live_count old + (n + 1) = omega (arith, below, own, o.came) in
        rw (size, path-is) all

    pub pushes-element : MakesWhatCame old new → PushesElement owner old new r e
    pushes-element makes = record {
      vector = good-row new n r (elements old root ++ e ∷ []) row-pushed (omega (arith, height, good.shape.low)) (λ some. omega (arith, wide-owned o good height, sub.links, good.shape.two (omega (arith, some, height)))) (omega (arith, length_push (elements old root) e, short));
      rule = rule-pushed;
      edits = EditsBy-more 0 (height_at old root + 2) (o.edits new (e ∷ []) [] 0 n sub.changes) (omega arith) (omega (arith, height));
      path = path-pushed;
      gains = gains-pushed;
      others = others-pushed;
      makes = makes;
    }

-- where the lowest row with room is, by the last child
module _ {K : Type 0} (F : Forms K) where
  pub room-low : (n lowest l : ℕ) → HasRoomAt F n lowest l → lowest ≤ n
  unfolding HasRoomAt
  room-low zero lowest l r = omega (arith, r.0)
  room-low (suc n) lowest l r = elim r as (λ _. lowest ≤ suc n) [
    | inl at ↦ omega (arith, at.0)
    | inr lower ↦ omega (arith, lower.0)
  ]

  pub room-zero : (n l : ℕ) → n ≡ 0 → length (links_in F l) < 32 → HasRoomAt F n 0 l
  unfolding HasRoomAt
  room-zero zero l e lt = (refl, lt)
  room-zero (suc n) l e lt = absurd (omega (arith, e))

  pub room-up : (n lowest l : ℕ) → n ≢ 0 → HasRoomAt F (n - 1) lowest (last_in F l) → HasRoomAt F n lowest l
  unfolding HasRoomAt
  room-up zero lowest l some r = absurd (some refl)
  room-up (suc n) lowest l some r =
      let down : suc n - 1 ≡ n = omega arith in
      let r' : HasRoomAt F n lowest (last_in F l) = rw down at r in
      inr (room-low n lowest (last_in F l) r', r')

  pub room-at : (n l : ℕ) → n ≢ 0 → length (links_in F l) < 32 → IsPacked F (n - 1) (last_in F l) → HasRoomAt F n n l
  unfolding HasRoomAt
  room-at zero l some lt p = absurd (some refl)
  room-at (suc n) l some lt p = let down : suc n - 1 ≡ n = omega arith in inl (refl, lt, rw down at p)

  pub packed-at : (n l : ℕ) → n ≢ 0 → length (links_in F l) ≡ 32 → IsPacked F (n - 1) (last_in F l) → IsPacked F n l
  unfolding IsPacked
  packed-at zero l some e p = absurd (some refl)
  packed-at (suc n) l some e p = let down : suc n - 1 ≡ n = omega arith in (e, rw down at p)

  pub last-well : (n l : ℕ) → n ≢ 0 → IsWell F n l → (1 ≤ length (links_in F l)) × IsWell F (n - 1) (last_in F l)
  unfolding IsWell
  last-well zero l some w = absurd (some refl)
  last-well (suc n) l some w =
      let down : suc n - 1 ≡ n = omega arith in
      (w.some, rw down (w.children (length (links_in F l) - 1) 0 (omega (arith, w.some))))

pub last-is : {T : Type 0} (h : Heap T) (row child : ℕ) (ls ms : List ℕ) → child ≡ get_or ms (length ls - 1) child → ls ≡ links_at h row → ms ≡ links_at h row → 1 ≤ length (links_in (form_at h) row) → child ≡ last_in (form_at h) row
last-is h row child ls ms is a b some =
    at-place ms (links_at h row) (length ls - 1) child is b (omega (arith, ap length a, some, ap length (links-form h row))) ∙ rw (a, links-form h row) refl
