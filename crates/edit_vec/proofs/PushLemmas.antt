-- One step of a push down its path.
use Rattle.node_heap.specs.declared.row.Head.{Head}
use Rattle.std.proofs.Common.{◌≡◌, ◌≢◌, ℕ, suc, ◌-◌, ◌+◌, ◌<◌, ◌≤◌, ◌^◌, List, [], ◌∷◌, ◌++◌, length, take, drop, get_or, set, refl, ap, sym, ◌∙◌, arith, length-append, append-nil, length-set, subst, min, zero, Option, Some, None, IsSome, ◌⊎◌, inl, inr}
use Rattle.std.specs.Prelude.{option_map, insert, IfSome, IfNone}
use Rattle.std.specs.List.{All, flat_map}
use Rattle.std.proofs.lemmas.List.{take_all, drop_all, get_or-set_same, get_or-take, length-take}
use Rattle.std.proofs.lemmas.Bool.{cases_eq, cases_lt}
use Rattle.node_heap.proofs.Counts.{test_same}
use Rattle.node_heap.proofs.BuildLemmas.{count-cons}
use Rattle.node_heap.specs.Links.{count, HasLink, here as here-link}
use Rattle.node_heap.specs.Forms.{Row, Forms, cell, node, leaf, inner, form_of, head_of, links_in, is_node, links_of}
use Rattle.node_heap.specs.Heap.{Heap, row_at, form_at, links_at, owners_at, live_count}
use Rattle.node_heap.specs.declared.row.Head.TheVariants.{Inner}
use Rattle.node_heap.specs.InPlace.{other_at, child_at, path_start, Writes, Changes}
use Rattle.node_heap.specs.Calls.{Makes}
use Rattle.node_heap.proofs.Edited.{Changes-path, Changes-beside, Changes-more}
use Rattle.node_heap.proofs.EditLaws.{Gains-trans, Gains-Changes}
use Rattle.rrb_core.specs.Seq.{seq_at, IsThick, IsWell}
use Rattle.rrb_core.specs.Vector.{AreSums, KeepsSums, HasSums, sums_at}
use Rattle.rrb_core.specs.Build.{IsRowOf, AreRows}
use Rattle.rrb_core.proofs.EditLemmas.{pushed-last}
use Rattle.rrb_core.proofs.RowLists.{IsOver, over, child-at, keeps-some}
use Rattle.rrb_core.proofs.Lists.{empty-list, last-sum, set-parts}
use Rattle.rrb_core.proofs.Stays.{links-form, forms-stay}
use Rattle.rrb_core.specs.Push.{last_in, IsPacked, AddsLink, IsPushed, into_leaf, into_last, into_new}
use Rattle.rrb_core.proofs.ClosedRows.{Stays}
use Rattle.edit_vec.specs.Steps.{CanWrite, HasRoomAt, PushesIn, grown}
use Rattle.edit_vec.proofs.OwnLemmas.{OwnsChild, stays-below, child-below, down, soles-above, holder, gains-child, OwnsHeaded}
use Rattle.edit_vec.specs.Path.{spine_at}
use Rattle.node_heap.specs.Owner.{alone, written, KeepsAlone}
use Rattle.edit_vec.proofs.PathLemmas.{spine_below, spine-below, spine-same, spine-stays, spine-linked}
use Rattle.node_heap.proofs.AloneLemmas.{alone-yes, KeepsAlone-none, KeepsAlone-cons, KeepsAlone-own, written-cons, written-own, alone-own}
use Rattle.edit_vec.proofs.StepLemmas.{row-is, row-moved, well-node}
use Rattle.edit_vec.proofs.RowLemmas.{form-rewritten, sums-rewritten}
use Rattle.edit_vec.proofs.StepRows.{links-new, head-new, whole, items-new, sizes-beside}
use Rattle.edit_vec.proofs.GrowLemmas.{keeps-grown, row-headed}

-- the row behind the first on a part of a right spine
pub spine-linked-take : {T : Type 0} (h : Heap T) (n l k : ℕ) → IsWell (form_at h) n l → 1 ≤ length (take k (spine_below (form_at h) n l)) → HasLink (links_at h) l (get_or (take k (spine_below (form_at h) n l)) 0 0)
spine-linked-take h n l k well more =
    let tail : List ℕ = spine_below (form_at h) n l in
    let fewer : length (take k tail) ≡ min k (length tail) = length-take k tail in
    subst (HasLink (links_at h) l) (sym (get_or-take k tail 0 0 (omega (arith, more, fewer)))) (spine-linked h n l well (omega (arith, more, fewer)))

-- the sums that a row keeps are few, and the last is how many elements its children have
sums-or : {K : Type 0} {F : Forms K} {n : ℕ} {ks ss : List ℕ} → KeepsSums F n ks ss → (length ss ≡ 0) ⊎ AreSums ss (seq_at F n) ks
sums-or {F = F} {n = n} {ks = ks} {ss = ss} s = elim (cases_lt 0 (length ss)) as (λ _. (length ss ≡ 0) ⊎ AreSums ss (seq_at F n) ks) [
  | inl some ↦ inr (keeps-some s some)
  | inr none ↦ inl (omega (arith, none))
]

few-sums : {K : Type 0} {F : Forms K} {n : ℕ} {ks ss : List ℕ} → length ks ≤ 32 → KeepsSums F n ks ss → length ss ≤ 32
few-sums {ss = ss} most s = elim (sums-or s) as (λ _. length ss ≤ 32) [
  | inl none ↦ omega (arith, none)
  | inr sums ↦ omega (arith, sums.count, most)
]

last-short : {K : Type 0} {F : Forms K} {n : ℕ} {ks ss : List ℕ} → 1 ≤ length ks → KeepsSums F n ks ss → length (flat_map (seq_at F n) ks) + 1 < 2 ^ 32 → get_or ss (length ss - 1) 0 + 1 < 2 ^ 32
last-short {F = F} {n = n} {ks = ks} {ss = ss} some s short = elim (sums-or s) as (λ _. get_or ss (length ss - 1) 0 + 1 < 2 ^ 32) [
  | inl none ↦ rw (empty-list ss none) (omega arith)
  | inr sums ↦ omega (arith, (last-sum ss ks (seq_at F n) sums some).1, short)
]

-- a packed row, read back
packed-back : {T : Type 0} {P : ℕ → Type 0} {old new : Heap T} → Stays P old new → (n l : ℕ) → P l → IsWell (form_at old) n l → IsPacked (form_at new) n l → IsPacked (form_at old) n l
unfolding IsPacked IsWell
packed-back s zero l p w f = rw (forms-stay s l p) at f
packed-back {P = P} {old = old} {new = new} s (suc n) l p w f =
    let ks : List ℕ = links_in (form_at old) l in
    let same : links_in (form_at new) l ≡ ks = forms-stay s l p in
    let named : All P ks = rw (links-form old l) (s.closed l p) in
    let inside : length ks - 1 < length ks = omega (arith, w.some) in
    let last : last_in (form_at new) l ≡ get_or ks (length ks - 1) 0 = ap (λ (xs : List ℕ). get_or xs (length xs - 1) 0) same in
    let below : IsPacked (form_at new) n (get_or ks (length ks - 1) 0) = subst (IsPacked (form_at new) n) last f.1 in
    (sym (ap length same) ∙ f.0, packed-back s n (get_or ks (length ks - 1) 0) (named (length ks - 1) 0 inside) (w.children (length ks - 1) 0 inside) below)

-- what a push makes of a leaf, and of an inner row
pushed-leaf : {K : Type 0} {F G : Forms K} {e l m : ℕ} → IsPushed F G e zero l m → AddsLink F G l m e
pushed-leaf (into_leaf l m a) = a

pushed-inner : {K : Type 0} {F G : Forms K} {e n l m : ℕ} → IsPushed F G e (suc n) l m
    → ((k : ℕ) × IsPushed F G e n (last_in F l) k × (links_in G m ≡ take (length (links_in F l) - 1) (links_in F l) ++ k ∷ [])) ⊎ ((k : ℕ) × IsPacked F n (last_in F l) × (seq_at G n k ≡ e ∷ []) × AddsLink F G l m k)
pushed-inner (into_last n l m k p links) = inl (k, p, links)
pushed-inner (into_new n l m k f one a) = inr (k, f, one, a)

-- where a push puts its element, by the rows before that stay
pub pushed-back : {T : Type 0} {P : ℕ → Type 0} {old mid : Heap T} {G : Forms T} {e : ℕ} → Stays P old mid → (n l m : ℕ) → P l → IsWell (form_at old) n l → IsPushed (form_at mid) G e n l m → IsPushed (form_at old) G e n l m
unfolding IsWell
pushed-back s zero l m p w r = let a = pushed-leaf r in into_leaf l m (record { room = rw (forms-stay s l p) at a.room; links = rw (forms-stay s l p) at a.links })
pushed-back {P = P} {old = old} {mid = mid} {G = G} {e = e} s (suc n) l m p w r =
    let ks : List ℕ = links_in (form_at old) l in
    let same : links_in (form_at mid) l ≡ ks = forms-stay s l p in
    let named : All P ks = rw (links-form old l) (s.closed l p) in
    let inside : length ks - 1 < length ks = omega (arith, w.some) in
    let d : ℕ = get_or ks (length ks - 1) 0 in
    let last : last_in (form_at mid) l ≡ d = ap (λ (xs : List ℕ). get_or xs (length xs - 1) 0) same in
    elim (pushed-inner r) as (λ _. IsPushed (form_at old) G e (suc n) l m) [
      | inl q ↦
          let below : IsPushed (form_at mid) G e n d q.0 = subst (λ j. IsPushed (form_at mid) G e n j q.0) last q.1 in
          into_last n l m q.0 (pushed-back s n d q.0 (named (length ks - 1) 0 inside) (w.children (length ks - 1) 0 inside) below) (q.2 ∙ ap (λ (xs : List ℕ). take (length xs - 1) xs ++ q.0 ∷ []) same)
      | inr q ↦
          let below : IsPacked (form_at mid) n d = subst (IsPacked (form_at mid) n) last q.1 in
          into_new n l m q.0 (packed-back s n d (named (length ks - 1) 0 inside) (w.children (length ks - 1) 0 inside) below) q.2 (record { room = rw same at q.3.room; links = q.3.links ∙ ap (λ (xs : List ℕ). xs ++ q.0 ∷ []) same })
    ]

-- and by another link of the same row
pub pushed-from : {K : Type 0} {F G : Forms K} {e n c m : ℕ} (d : ℕ) → F c ≡ F d → IsPushed F G e n c m → IsPushed F G e n d m
pushed-from {F = F} {e = x} d e (into_leaf l m a) = into_leaf d m (record { room = subst (λ r. length (links_of r) < 32) e a.room; links = a.links ∙ ap (λ r. links_of r ++ x ∷ []) e })
pushed-from {F = F} {G = G} {e = x} d e (into_last n l m k sub links) =
    into_last n d m k (subst (λ r. IsPushed F G x n (get_or (links_of r) (length (links_of r) - 1) 0) k) e sub) (links ∙ ap (λ r. take (length (links_of r) - 1) (links_of r) ++ k ∷ []) e)
pushed-from {F = F} d e (into_new n l m k f one a) =
    into_new n d m k (subst (λ r. IsPacked F n (get_or (links_of r) (length (links_of r) - 1) 0)) e f) one (record { room = subst (λ r. length (links_of r) < 32) e a.room; links = a.links ∙ ap (λ r. links_of r ++ k ∷ []) e })

-- a row above the height where the element goes, and its last child
pub can-down : {T : Type 0} {h : Heap T} {n row e : ℕ} → CanWrite h n row e → 1 ≤ n → CanWrite h (suc (n - 1)) row e
can-down {n = n} can some = let down : suc (n - 1) ≡ n = omega (arith, some) in rw down can

pub last-inside : {T : Type 0} {h : Heap T} {n row e : ℕ} {ls : List ℕ} → CanWrite h (suc n) row e → ls ≡ links_at h row → length ls - 1 < length (links_at h row)
last-inside {h = h} {n = n} {row = row} can same = omega (arith, (over h n row can.well can.sums).some, ap length same)

pub last-node : {T : Type 0} {h : Heap T} {n row e : ℕ} {ls : List ℕ} → CanWrite h (suc n) row e → ls ≡ links_at h row → is_node (row_at h (child_at h row (length ls - 1))) ≡ 1
last-node {h = h} {n = n} {row = row} {ls = ls} can same =
    let at = child_at h row (length ls - 1) in
    well-node h n at (child-at h n row (length ls - 1) at (over h n row can.well can.sums) (last-inside can same) refl).well

-- a row of which the last child was made its own: its sums may grow
module _ {T : Type 0} {old mid : Heap T} {n row place c e : ℕ} (o : OwnsChild old mid row place c) (can : CanWrite old (suc n) row e) where
  sums-mid : sums_at mid row ≡ sums_at old row
  sums-mid = sums-rewritten (row_at old row) (row_at mid row) o.parent_head

  pub grown-mid : grown (sums_at mid row) ≡ grown (sums_at old row)
  grown-mid = ap grown sums-mid

  pub inner-mid : form_at mid row ≡ Some (node (inner (suc n)) (links_at mid row))
  unfolding IsWell
  inner-mid = form-rewritten (row_at old row) (row_at mid row) (inner (suc n)) (links_in (form_at old) row) o.parent_head can.well.kind

  pub sole-mid : owners_at mid row ≡ 1
  sole-mid = soles-above o row (here-link row) can.sole

  pub few-mid : length (sums_at mid row) ≤ 32
  few-mid = let under = over old n row can.well can.sums in rw sums-mid (few-sums under.most under.sums)

  pub short-mid : length (seq_at (form_at old) (suc n) row) + 1 < 2 ^ 32 → get_or (sums_at mid row) (length (sums_at mid row) - 1) 0 + 1 < 2 ^ 32
  short-mid short = let under = over old n row can.well can.sums in rw sums-mid (last-short under.some under.sums (omega (arith, ap length under.items, short)))

-- they have grown, and then the child was pushed to
module _ {T : Type 0} {old mid new : Heap T} {n row place c e lowest height : ℕ} {ss : List ℕ} (o : OwnsHeaded (Some (Inner height ss)) old mid row place c) (tall : height ≡ suc n) (counts : ss ≡ grown (sums_at old row)) (can : CanWrite old (suc n) row e) (is : place ≡ length (links_at old row) - 1) (sub : PushesIn mid new n lowest c e) where
  abbrev ks : List ℕ
  ks = links_at old row

  made : IsRowOf new n c (seq_at (form_at old) n (get_or ks place 0) ++ e ∷ [])
  made = rw (row-moved n o can.well can.sums).items at sub.row

  some : 1 ≤ length (seq_at (form_at old) n (get_or ks place 0) ++ e ∷ [])
  some = omega (arith, length-append (seq_at (form_at old) n (get_or ks place 0)) (e ∷ []))

  close : place + 1 < length ks → IsThick (form_at new) n c
  close more = absurd (omega (arith, more, is, o.inside))

  links : links_at new row ≡ set ks place c
  links = links-new o can.well can.sums (holder o can.held can.apart) sub.changes.apart made some close

  wide : length (set ks place c) ≡ length ks
  wide = length-set ks place c

  under : IsOver old n row
  under = over old n row can.well can.sums

  rows : AreRows new n (links_at new row)
  rows = rw links (whole o can.well can.sums (holder o can.held can.apart) sub.changes.apart made some close)

  items : flat_map (seq_at (form_at new) n) (links_at new row) ≡ seq_at (form_at old) (suc n) row ++ e ∷ []
  items =
      let f : ℕ → List ℕ = seq_at (form_at old) n in
      let none : drop (place + 1) ks ≡ [] = drop_all (place + 1) ks (omega (arith, is, o.inside)) in
      let all : flat_map f (take place ks) ++ ((f (get_or ks place 0) ++ e ∷ []) ++ flat_map f (drop (place + 1) ks)) ≡ seq_at (form_at old) (suc n) row ++ e ∷ [] =
      rw (none, append-nil, is, under.items) (pushed-last f ks (e ∷ []) under.some) in
      rw links (items-new o can.well can.sums (holder o can.held can.apart) sub.changes.apart made some close ∙ all)

  sums : KeepsSums (form_at new) n (links_at new row) ss
  sums =
      let own : get_or (set ks place c) place 0 ≡ c = get_or-set_same ks place c 0 o.inside in
      let last-size : length (seq_at (form_at new) n (get_or (set ks place c) (length ks - 1) 0)) ≡ length (seq_at (form_at old) n (get_or ks (length ks - 1) 0)) + 1 =
      rw (← is, own, made.items) (omega (arith, length-append (seq_at (form_at old) n (get_or ks place 0)) (e ∷ []))) in
      rw (links, counts) (keeps-grown {F = form_at old} {G = form_at new} n ks (set ks place c) (sums_at old row) under.some wide
      (λ j low lt. sizes-beside o can.well can.sums (holder o can.held can.apart) sub.changes.apart made some close j lt (λ e. absurd (omega (arith, low, is, e)))) last-size under.sums)

  itself : Writes new new row (Some (Inner height ss)) (links_at new row)
  itself = record {
    new_head = head-new o can.well can.sums (holder o can.held can.apart) sub.changes.apart made some close;
    new_links = refl;
    others = λ k other. refl;
  }

  push-row : IsRowOf new (suc n) row (seq_at (form_at old) (suc n) row ++ e ∷ [])
  push-row = row-headed sub.changes.trades.graph itself tall rows (omega (arith, ap length links, wide, under.some)) (omega (arith, ap length links, wide, under.most)) sums items

  push-changes : Changes row old new (e ∷ []) [] 0 (suc n)
  push-changes = Changes-more 0 (suc n) (Changes-beside o.changes (Changes-path (down o row path_start) sub.changes)) (omega arith) (omega arith)

  well-child : IsWell (form_at old) n (get_or ks place 0)
  well-child = under.rows.well place 0 o.inside

  push-rule : IsPushed (form_at old) (form_at new) e (suc n) row row
  push-rule =
      let d : ℕ = get_or ks place 0 in
      let last : last_in (form_at old) row ≡ d = rw (links-form old row, is) refl in
      let moved : IsPushed (form_at old) (form_at new) e n d c = pushed-back (stays-below o) n d c (child-below o) well-child (pushed-from d (ap (option_map form_of) (row-is o)) sub.rule) in
      let none : drop (place + 1) ks ≡ [] = drop_all (place + 1) ks (omega (arith, is, o.inside)) in
      let cut : set ks place c ≡ take place ks ++ c ∷ [] = set-parts ks place c o.inside ∙ rw (none, append-nil) refl in
      let ends : take place ks ++ c ∷ [] ≡ take (length (links_in (form_at old) row) - 1) (links_in (form_at old) row) ++ c ∷ [] = rw (links-form old row, is) refl in
      into_last n row row c (subst (λ j. IsPushed (form_at old) (form_at new) e n j c) (sym last) moved) (links-form new row ∙ links ∙ cut ∙ ends)

  -- the path

  tail-moved : spine_below (form_at mid) n c ≡ spine_below (form_at old) n (get_or ks place 0)
  tail-moved =
      let d : ℕ = get_or ks place 0 in
      spine-same (form_at mid) n c d (ap (option_map form_of) (row-is o))
      ∙ ap (drop 1) (sym (spine-below (form_at mid) n d) ∙ spine-stays (stays-below o) n d (child-below o) well-child ∙ spine-below (form_at old) n d)

  path-old : spine_at (form_at old) (suc n) row ≡ row ∷ get_or ks place 0 ∷ spine_below (form_at old) n (get_or ks place 0)
  path-old =
      spine-below (form_at old) (suc n) row
      ∙ ap (λ (xs : List ℕ). row ∷ spine_at (form_at old) n (get_or xs (length xs - 1) 0)) (links-form old row)
      ∙ ap (λ (j : ℕ). row ∷ spine_at (form_at old) n (get_or ks j 0)) (sym is)
      ∙ ap (λ (xs : List ℕ). row ∷ xs) (spine-below (form_at old) n (get_or ks place 0))

  path-new : spine_at (form_at new) (suc n) row ≡ row ∷ spine_at (form_at new) n c
  path-new =
      let own : get_or (set ks place c) place 0 ≡ c = get_or-set_same ks place c 0 o.inside in
      let at : length (set ks place c) - 1 ≡ place = omega (arith, wide, is) in
      spine-below (form_at new) (suc n) row
      ∙ ap (λ (xs : List ℕ). row ∷ spine_at (form_at new) n (get_or xs (length xs - 1) 0)) (links-form new row ∙ links)
      ∙ ap (λ (j : ℕ). row ∷ spine_at (form_at new) n (get_or (set ks place c) j 0)) at
      ∙ ap (λ (j : ℕ). row ∷ spine_at (form_at new) n j) own

  next : (k : ℕ) → 1 ≤ length (take k (spine_below (form_at old) n (get_or ks place 0))) → HasLink (links_at old) (get_or ks place 0) (get_or (take k (spine_below (form_at old) n (get_or ks place 0))) 0 0)
  next k more = spine-linked-take old n (get_or ks place 0) k well-child more

  push-path : lowest ≤ n → KeepsAlone old (take (suc n - lowest + 1) (spine_at (form_at old) (suc n) row)) (take (suc n - lowest + 1) (spine_at (form_at new) (suc n) row))
  push-path low =
      let k : ℕ = n - lowest in
      let d : ℕ = get_or ks place 0 in
      let deep : suc n - lowest + 1 ≡ suc (suc k) = omega (arith, low) in
      let deep' : n - lowest + 1 ≡ suc k = omega (arith, low) in
      let was : KeepsAlone mid (c ∷ take k (spine_below (form_at old) n d)) (take (suc k) (spine_at (form_at new) n c)) = rw (deep', spine-below (form_at mid) n c, tail-moved) at sub.path in
      rw (path-old, path-new, deep) (KeepsAlone-cons old row (d ∷ take k (spine_below (form_at old) n d)) (take (suc k) (spine_at (form_at new) n c)) can.sole (KeepsAlone-own old mid d c (take k (spine_below (form_at old) n d)) o.same o.sole o.owners can.graph (next k) (take (suc k) (spine_at (form_at new) n c)) was))

  push-others : lowest ≤ n → (m : ℕ) → IsSome (row_at old m) → count m (written old (take (suc n - lowest + 1) (spine_at (form_at old) (suc n) row))) ≡ 0 → row_at new m ≡ row_at old m
  push-others low m live off =
      let k : ℕ = n - lowest in
      let d : ℕ = get_or ks place 0 in
      let tail : List ℕ = take k (spine_below (form_at old) n d) in
      let deep : suc n - lowest + 1 ≡ suc (suc k) = omega (arith, low) in
      let deep' : n - lowest + 1 ≡ suc k = omega (arith, low) in
      let rows : count m (row ∷ written old (d ∷ tail)) ≡ 0 = rw (path-old, deep, written-cons old row (d ∷ tail) can.sole) at off in
      let parts = count-cons m row (written old (d ∷ tail)) in
      let not_row : m ≢ row = λ e. absurd (omega (arith, rows, parts, test_same m row e)) in
      let fresh : c ≢ d → m ≢ c = λ copy e. let gone : row_at old m ≡ None = ap (row_at old) e ∙ o.fresh copy in absurd cc in
      let before : row_at mid m ≡ row_at old m = elim (cases_eq m c) as (λ _. row_at mid m ≡ row_at old m) [
        | inl e ↦ elim (cases_eq c d) as (λ _. row_at mid m ≡ row_at old m) [
          | inl itself ↦ ap (row_at mid) e ∙ o.row_same ∙ ap (row_at old) (sym (e ∙ itself))
          | inr copy ↦ absurd (fresh copy e)
        ]
        | inr other ↦ o.others m not_row other
      ] in
      let left : count m (written mid (c ∷ tail)) ≡ 0 = written-own old mid d c tail o.same o.sole o.owners can.graph (next k) m fresh (omega (arith, rows, parts)) in
      sub.others m (rw before live) (rw (deep', spine-below (form_at mid) n c, tail-moved) left) ∙ before

  push-came : lowest ≤ n → live_count new + alone old (take (suc n - lowest + 1) (spine_at (form_at old) (suc n) row)) ≤ live_count old + (suc n + 1)
  push-came low =
      let k : ℕ = n - lowest in
      let d : ℕ = get_or ks place 0 in
      let tail : List ℕ = take k (spine_below (form_at old) n d) in
      let deep : suc n - lowest + 1 ≡ suc (suc k) = omega (arith, low) in
      let deep' : n - lowest + 1 ≡ suc k = omega (arith, low) in
      let below : live_count new + alone mid (c ∷ tail) ≤ live_count mid + (n + 1) = rw (deep', spine-below (form_at mid) n c, tail-moved) at sub.came in
      let own : alone mid (c ∷ tail) ≡ alone old (d ∷ tail) + other_at d c = alone-own old mid d c tail o.same o.sole o.owners can.graph (next k) in
      let all : live_count new + alone old (row ∷ d ∷ tail) ≤ live_count old + (suc n + 1) = omega (arith, below, own, o.makes.live, alone-yes old row (d ∷ tail) can.sole) in
      rw (path-old, deep) all

  pub push-step : lowest ≤ n → PushesIn old new (suc n) lowest row e
  push-step low = record {
    row = push-row;
    rule = push-rule;
    links = omega (arith, ap length links, wide);
    changes = push-changes;
    gains = Gains-trans (gains-child o) sub.gains;
    path = push-path low;
    came = push-came low;
    others = push-others low;
  }

-- a leaf that was pushed to
pub pushes-leaf : {T : Type 0} {old new : Heap T} {row e place lowest : ℕ} → CanWrite old 0 row e → length (links_at old row) < 32 → place ≡ length (links_at old row)
    → Writes old new row (head_of (row_at old row)) (insert (links_at old row) place e) → Changes row old new (e ∷ []) [] 0 0 → Makes old new 0 0 → PushesIn old new 0 lowest row e
unfolding IsWell HasSums seq_at
pushes-leaf {T} {old} {new} {row} {e} {place} {lowest} can room is writes changes makes =
    let ks : List ℕ = links_at old row in
    let all : insert ks place e ≡ ks ++ e ∷ [] = rw (take_all place ks (omega (arith, is)), drop_all place ks (omega (arith, is))) refl in
    let was : links_in (form_at old) row ≡ ks = links-form old row in
    let now : links_in (form_at new) row ≡ ks ++ e ∷ [] = links-form new row ∙ writes.new_links ∙ all in
    let one : 0 - lowest + 1 ≡ 1 = omega arith in
    record {
      row = record {
        well = record {
          kind = form-rewritten (row_at old row) (row_at new row) leaf (links_in (form_at old) row) writes.new_head can.well.kind ∙ ap (λ (ls : List ℕ). Some (node leaf ls)) (sym (links-form new row));
          most = omega (arith, ap length now, length-append ks (e ∷ []), room);
        };
        sums = tt;
        items = now ∙ ap (λ (ls : List ℕ). ls ++ e ∷ []) (sym was);
      };
      rule = into_leaf row row (record { room = rw was room; links = now ∙ ap (λ (ls : List ℕ). ls ++ e ∷ []) (sym was) });
      links = omega (arith, ap length (writes.new_links ∙ all), length-append ks (e ∷ []));
      changes = changes;
      gains = Gains-Changes changes (λ k other live. writes.others k other) makes;
      path = rw (one, spine-below (form_at old) 0 row, spine-below (form_at new) 0 row) (KeepsAlone-cons old row [] [] can.sole (KeepsAlone-none old));
      came =
          let single : live_count new + alone old (row ∷ []) ≤ live_count old + 1 = omega (arith, makes.live, alone-yes old row [] can.sole) in
          rw (one, spine-below (form_at old) 0 row) single;
      others = λ m live off.
          let single : count m (row ∷ []) ≡ 0 = rw (one, spine-below (form_at old) 0 row, written-cons old row [] can.sole) at off in
          writes.others m (λ e. absurd (omega (arith, single, count-cons m row [], test_same m row e)));
    }

pub room-same : {K : Type 0} (F : Forms K) (n lowest c d : ℕ) → F c ≡ F d → HasRoomAt F n lowest d → HasRoomAt F n lowest c
unfolding HasRoomAt
room-same F zero lowest c d e r = rw e r
room-same F (suc n) lowest c d e r = rw e r

pub packed-stays : {T : Type 0} {P : ℕ → Type 0} {old new : Heap T} → Stays P old new → (n l : ℕ) → P l → IsWell (form_at old) n l → IsPacked (form_at old) n l → IsPacked (form_at new) n l
unfolding IsPacked IsWell
packed-stays s zero l p w f = rw (forms-stay s l p) f
packed-stays {P = P} {old = old} {new = new} s (suc n) l p w f =
    let ks : List ℕ = links_in (form_at old) l in
    let named : All P ks = rw (links-form old l) (s.closed l p) in
    let inside : length ks - 1 < length ks = omega (arith, w.some) in
    let last = packed-stays s n (get_or ks (length ks - 1) 0) (named (length ks - 1) 0 inside) (w.children (length ks - 1) 0 inside) f.1 in
    rw (forms-stay s l p) (f.0, last)

-- room in a right spine that stays
pub room-stays : {T : Type 0} {P : ℕ → Type 0} {old new : Heap T} → Stays P old new → (n lowest l : ℕ) → P l → IsWell (form_at old) n l → HasRoomAt (form_at old) n lowest l → HasRoomAt (form_at new) n lowest l
unfolding HasRoomAt IsWell
room-stays s zero lowest l p w r = rw (forms-stay s l p) r
room-stays {P = P} {old = old} {new = new} s (suc n) lowest l p w r =
    let ks : List ℕ = links_in (form_at old) l in
    let named : All P ks = rw (links-form old l) (s.closed l p) in
    let inside : length ks - 1 < length ks = omega (arith, w.some) in
    let d : ℕ = get_or ks (length ks - 1) 0 in
    elim r as (λ _. HasRoomAt (form_at new) (suc n) lowest l) [
      | inl at ↦ let there = packed-stays s n d (named (length ks - 1) 0 inside) (w.children (length ks - 1) 0 inside) at.2 in inl (at.0, rw (forms-stay s l p) at.1, rw (forms-stay s l p) there)
      | inr lower ↦ let there = room-stays s n lowest d (named (length ks - 1) 0 inside) (w.children (length ks - 1) 0 inside) lower.1 in inr (lower.0, rw (forms-stay s l p) there)
    ]

-- what a search for room has found: the height of the lowest row with room, or that there is none
abbrev pub IsFound : {K : Type 0} → Forms K → ℕ → ℕ → Option ℕ → Type 0
IsFound F n l found = IfSome found (λ lowest. HasRoomAt F n lowest l) × IfNone found (IsPacked F n l)

-- room in the row itself, and below it
pub room-leaf : {K : Type 0} (F : Forms K) (lowest l : ℕ) → HasRoomAt F 0 lowest l → (lowest ≡ 0) × (length (links_in F l) < 32)
unfolding HasRoomAt
room-leaf F lowest l r = r

pub room-here : {K : Type 0} (F : Forms K) (n l : ℕ) → HasRoomAt F (suc n) (suc n) l → (length (links_in F l) < 32) × IsPacked F n (last_in F l)
unfolding HasRoomAt
room-here F n l r = elim r as (λ _. (length (links_in F l) < 32) × IsPacked F n (last_in F l)) [
  | inl at ↦ (at.1, at.2)
  | inr lower ↦ absurd (omega (arith, lower.0))
]

pub room-lower : {K : Type 0} (F : Forms K) (n lowest l : ℕ) → HasRoomAt F n lowest l → n ≢ lowest → (1 ≤ n) × (lowest ≤ n - 1)
unfolding HasRoomAt
room-lower F zero lowest l r other = absurd (other (sym r.0))
room-lower F (suc n) lowest l r other = elim r as (λ _. (1 ≤ suc n) × (lowest ≤ suc n - 1)) [
  | inl at ↦ absurd (other (sym at.0))
  | inr lower ↦ (omega arith, omega (arith, lower.0))
]

pub node-headed : {T : Type 0} (r s : Option (Row T)) → head_of r ≡ head_of s → is_node s ≡ 1 → is_node r ≡ 1
node-headed r None e n = absurd (omega (arith, n))
node-headed r (Some (cell x)) e n = absurd (omega (arith, n))
node-headed None (Some (node h l)) e n = absurd cc
node-headed (Some (cell x)) (Some (node h l)) e n = absurd cc
node-headed (Some (node h' l')) (Some (node h l)) e n = refl

-- the child of a row that is to be pushed to
module _ {T : Type 0} {head : Option Head} {old mid : Heap T} {n row place c e : ℕ} (lowest : ℕ) (o : OwnsHeaded head old mid row place c) (can : CanWrite old (suc n) row e) (is : place ≡ length (links_at old row) - 1) where
  pub room-child : lowest ≤ n → HasRoomAt (form_at old) (suc n) lowest row → HasRoomAt (form_at mid) n lowest c
  unfolding HasRoomAt
  room-child low r = elim r as (λ _. HasRoomAt (form_at mid) n lowest c) [
    | inl at ↦ absurd (omega (arith, at.0, low))
    | inr lower ↦
        let d : ℕ = child_at old row place in
        let last : last_in (form_at old) row ≡ d = rw (links-form old row, is) refl in
        let well : IsWell (form_at old) n d = (over old n row can.well can.sums).rows.well place 0 o.inside in
        let here : HasRoomAt (form_at old) n lowest d = rw last at lower.1 in
        room-same (form_at mid) n lowest c d (ap (option_map form_of) (row-is o)) (room-stays (stays-below o) n lowest d (child-below o) well here)
  ]

  pub short-child : length (seq_at (form_at old) (suc n) row) + 1 < 2 ^ 32 → length (seq_at (form_at mid) n c) + 1 < 2 ^ 32
  short-child short =
      let there = child-at old n row place (child_at old row place) (over old n row can.well can.sums) o.inside refl in
      rw (row-moved n o can.well can.sums).items (omega (arith, there.short, short))
