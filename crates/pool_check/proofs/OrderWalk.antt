-- A walk from a root that enters no row twice, where the rows below the next one are those that are listed.
use Rattle.std.proofs.Common.{◌≡◌, ◌≢◌, ◌⊎◌, ℕ, zero, suc, ◌+◌, ◌*◌, ◌<◌, ◌≤◌, List, [], ◌∷◌, ◌++◌, length, get_or, drop, drop-cons, map, Option, Some, None, option_map, true, slice_get, add-one, refl, ap, sym, subst, ◌∙◌, arith, inl, inr, length-append, append_assoc}
use Rattle.std.specs.List.{flat_map, range_with_len}
use Rattle.std.proofs.lemmas.List.{append-nil}
use Rattle.std.proofs.lemmas.Option.{slice_get_within, slice_get_cases, slice_get_read, slice_get-map, get_or_from_slice_get}
use Rattle.node_heap.specs.Links.{Links, Reaches, here, below, LeadsDown}
use Rattle.pool_order.specs.Order.{with_new, with_all_new, places}
use Rattle.pool_order.proofs.Firsts.{with_all-append, with_all-absorbs}
use Rattle.pool_order.proofs.Places.{places-is, places-reached}
use Rattle.pool_order.proofs.Walked.{count-get_or}
use Rattle.node_heap.specs.Forms.{Form, links_of}
use Rattle.pool_text.specs.Rows.{Bytes, row_form}
use Rattle.pool_text.specs.Pool.{links_from}
use Rattle.pool_text.specs.declared.row.Row.{Row}
use Rattle.pool_order.specs.declared.walk.Visit.{Visit}
use Rattle.pool_check.specs.Rows.{rows_lead_back}
use Rattle.pool_check.specs.Counted.{CountsUp}
use Rattle.pool_check.proofs.TestLemmas.{lead-back-at}
use Rattle.pool_check.proofs.CountedLemmas.{is-listed, one-more, other-last, counted-before}

rows-down : (rows : List (Form Bytes)) → rows_lead_back 0 rows ≡ true → LeadsDown (λ l. l) (links_from rows)
rows-down rows back l k some = omega (arith, lead-back-at 0 rows back l k some)

-- the rows fall from below the bound down to the least
abbrev pub Falls : ℕ → ℕ → List (Visit ℕ) → Type 0
Falls bound least [] = least ≤ bound
Falls bound least (v ∷ vs) = (v.link < bound) × Falls v.link least vs

falls-last : (bound least : ℕ) (vs : List (Visit ℕ)) (v : Visit ℕ) → Falls bound least (vs ++ v ∷ []) → Falls bound (v.link + 1) vs × (least ≤ v.link)
falls-last bound least [] v falls = (omega (arith, falls.0), falls.1)
falls-last bound least (w ∷ vs) v falls = let later = falls-last w.link least vs v falls.1 in ((falls.0, later.0), later.1)

falls-more : (bound least : ℕ) (vs : List (Visit ℕ)) (v : Visit ℕ) → Falls bound (v.link + 1) vs → least ≤ v.link → Falls bound least (vs ++ v ∷ [])
falls-more bound least [] v falls low = (omega (arith, falls), low)
falls-more bound least (w ∷ vs) v falls low = (falls.0, falls-more w.link least vs v falls.1 low)

falls-low : (bound least : ℕ) (vs : List (Visit ℕ)) → Falls bound least vs → least ≤ bound
falls-low bound least [] falls = falls
falls-low bound least (v ∷ vs) falls = omega (arith, falls.0, falls-low v.link least vs falls.1)

reaches-low : (L : Links) → LeadsDown (λ l. l) L → (l k : ℕ) → Reaches L l k → k ≤ l
reaches-low L down a b (here l) = omega arith
reaches-low L down a b (below l k m has later) = omega (arith, down l k has, reaches-low L down k m later)

drop-none : (ks : List ℕ) (i : ℕ) → length ks ≤ i → drop i ks ≡ []
drop-none [] zero h = refl
drop-none [] (suc i) h = refl
drop-none (k ∷ ks) zero h = absurd (omega arith)
drop-none (k ∷ ks) (suc i) h = drop-none ks i (omega arith)

module _ (n : ℕ) (L : Links) where
  -- the places of the links that are left
  abbrev pub below_visit : Visit ℕ → List ℕ
  below_visit v = flat_map (places n L) (drop v.next (L v.link))

  -- what the visits have still to list, the last visit first
  unfoldable pub pending : List (Visit ℕ) → List ℕ
  pending [] = []
  pending (v ∷ vs) = pending vs ++ (below_visit v ++ v.link ∷ [])

  -- how many steps the visits still take
  unfoldable pub steps_left : List (Visit ℕ) → ℕ
  steps_left [] = 0
  steps_left (v ∷ vs) = steps_left vs + (2 * length (below_visit v) + 1)

  -- what is listed, with what is pending, comes to the whole; and each visit is of a smaller row than the one before
  pub record IsWalk (next : ℕ) (whole : List ℕ) (stack : List (Visit ℕ)) : Type 0 where
    pub falls : Falls n next stack
    pub total : with_all_new (range_with_len 0 next) (pending stack) ≡ whole

  pending-last : (vs : List (Visit ℕ)) (v : Visit ℕ) → pending (vs ++ v ∷ []) ≡ (below_visit v ++ v.link ∷ []) ++ pending vs
  unfolding pending
  pending-last [] v = sym (append-nil (below_visit v ++ v.link ∷ []))
  pending-last (w ∷ vs) v =
      ap (λ ys. ys ++ (below_visit w ++ w.link ∷ [])) (pending-last vs v) ∙ append_assoc (below_visit v ++ v.link ∷ []) (pending vs) (below_visit w ++ w.link ∷ [])

  steps-last : (vs : List (Visit ℕ)) (v : Visit ℕ) → steps_left (vs ++ v ∷ []) ≡ steps_left vs + (2 * length (below_visit v) + 1)
  unfolding steps_left
  steps-last [] v = omega arith
  steps-last (w ∷ vs) v = omega (arith, steps-last vs v)

  -- the places below a visit are those of its next link, and those after it
  below-next : (row link : ℕ) → link < length (L row) → below_visit (record { link = row; next = link }) ≡ places n L (get_or (L row) link 0) ++ below_visit (record { link = row; next = link + 1 })
  below-next row link low = rw (add-one, drop-cons (L row) link 0) refl

  pending-next : (vs : List (Visit ℕ)) (row link : ℕ) → link < length (L row)
      → pending (vs ++ record { link = row; next = link } ∷ []) ≡ places n L (get_or (L row) link 0) ++ pending (vs ++ record { link = row; next = link + 1 } ∷ [])
  pending-next vs row link low =
      let now : Visit ℕ = record { link = row; next = link } in
      let more : Visit ℕ = record { link = row; next = link + 1 } in
      let child : ℕ = get_or (L row) link 0 in
      pending-last vs now ∙ ap (λ ys. (ys ++ row ∷ []) ++ pending vs) (below-next row link low)
      ∙ ap (λ ys. ys ++ pending vs) (append_assoc (places n L child) (below_visit more) (row ∷ []))
      ∙ append_assoc (places n L child) (below_visit more ++ row ∷ []) (pending vs)
      ∙ ap (λ ys. places n L child ++ ys) (sym (pending-last vs more))

  pending-done : (vs : List (Visit ℕ)) (v : Visit ℕ) → length (L v.link) ≤ v.next → pending (vs ++ v ∷ []) ≡ v.link ∷ pending vs
  pending-done vs v done = pending-last vs v ∙ ap (λ ys. (ys ++ v.link ∷ []) ++ pending vs) (ap (flat_map (places n L)) (drop-none (L v.link) v.next done))

  row-low : (next : ℕ) (whole : List ℕ) (vs : List (Visit ℕ)) (v : Visit ℕ) → IsWalk next whole (vs ++ v ∷ []) → v.link < n
  row-low next whole vs v walk = omega (arith, falls-low n (v.link + 1) vs (falls-last n next vs v walk.falls).0)

  -- nothing is left
  pub walk-done : (next : ℕ) (whole : List ℕ) (stack : List (Visit ℕ)) → length stack ≡ 0 → IsWalk next whole stack → whole ≡ range_with_len 0 next
  unfolding pending
  walk-done next whole [] none walk = sym walk.total
  walk-done next whole (v ∷ vs) none walk = absurd (omega arith)

  steps-less : (vs : List (Visit ℕ)) (v : Visit ℕ) → steps_left vs < steps_left (vs ++ v ∷ [])
  steps-less vs v = omega (arith, steps-last vs v)

  -- the last visit's row is listed, where no link of it is left and it comes next
  walk-list : (next : ℕ) (whole : List ℕ) (vs : List (Visit ℕ)) (v : Visit ℕ) → IsWalk next whole (vs ++ v ∷ []) → length (L v.link) ≤ v.next → v.link ≡ next → IsWalk (next + 1) whole vs
  walk-list next whole vs v walk done same = record {
    falls = subst (λ k. Falls n (k + 1) vs) same (falls-last n next vs v walk.falls).0;
    total =
        sym (ap (λ ks. with_all_new ks (pending vs)) (one-more next v.link same)) ∙ sym (ap (with_all_new (range_with_len 0 next)) (pending-done vs v done)) ∙ walk.total;
  }

  -- and where it doesn't come next, the whole doesn't count up
  walk-stops : (next : ℕ) (whole : List ℕ) (vs : List (Visit ℕ)) (v : Visit ℕ) → IsWalk next whole (vs ++ v ∷ []) → length (L v.link) ≤ v.next → v.link ≢ next → ¬ CountsUp whole
  walk-stops next whole vs v walk done other counted =
      let all : with_all_new (with_new (range_with_len 0 next) v.link) (pending vs) ≡ whole = sym (ap (with_all_new (range_with_len 0 next)) (pending-done vs v done)) ∙ walk.total in
      other-last next v.link (falls-last n next vs v walk.falls).1 other (counted-before (with_new (range_with_len 0 next) v.link) (pending vs) (length whole) (all ∙ counted))

  none-left : (row link : ℕ) → None ≡ slice_get (L row) link → length (L row) ≤ link
  none-left row link none = by_cases (slice_get_cases (L row) link).1
    where
      by_cases : ((x : ℕ) × (link < length (L row)) × (slice_get (L row) link ≡ Some x) × (get_or (L row) link x ≡ x)) ⊎ ((length (L row) ≤ link) × (slice_get (L row) link ≡ None)) → length (L row) ≤ link
      by_cases (inl some) = absurd (let e : None ≡ Some some.0 = none ∙ some.2 in cc)
      by_cases (inr past) = past.0

  module _ (down : LeadsDown (λ l. l) L) where
    walk-start : (next root : ℕ) → next ≤ root → root < n → IsWalk next (with_all_new (range_with_len 0 next) (places n L root)) (record { link = root; next = 0 } ∷ [])
    unfolding pending
    walk-start next root high low = record {
      falls = (low, high);
      total = ap (with_all_new (range_with_len 0 next)) (sym (places-is (λ l. l) L down n root low));
    }

    -- the places of a row that is listed are listed
    listed-places : (next k : ℕ) → k < next → with_all_new (range_with_len 0 next) (places n L k) ≡ range_with_len 0 next
    listed-places next k low = with_all-absorbs (range_with_len 0 next) (places n L k) (λ j some. is-listed next j (omega (arith, reaches-low L down k j (places-reached n L k j some), low)))

    -- the next link of the last visit is listed already
    walk-skip : (next : ℕ) (whole : List ℕ) (vs : List (Visit ℕ)) (row link : ℕ) → IsWalk next whole (vs ++ record { link = row; next = link } ∷ []) → link < length (L row) → get_or (L row) link 0 < next
        → IsWalk next whole (vs ++ record { link = row; next = link + 1 } ∷ [])
    walk-skip next whole vs row link walk low small = record {
      falls = let falls = falls-last n next vs (record { link = row; next = link }) walk.falls in falls-more n next vs (record { link = row; next = link + 1 }) falls.0 falls.1;
      total =
          let child : ℕ = get_or (L row) link 0 in
          let later : List ℕ = pending (vs ++ record { link = row; next = link + 1 } ∷ []) in
          sym (ap (λ ks. with_all_new ks later) (listed-places next child small)) ∙ sym (with_all-append (range_with_len 0 next) (places n L child) later)
          ∙ sym (ap (with_all_new (range_with_len 0 next)) (pending-next vs row link low)) ∙ walk.total;
    }

    -- the next link of the last visit gets a visit
    walk-enter : (next : ℕ) (whole : List ℕ) (vs : List (Visit ℕ)) (row link : ℕ) → IsWalk next whole (vs ++ record { link = row; next = link } ∷ []) → link < length (L row) → next ≤ get_or (L row) link 0
        → IsWalk next whole ((vs ++ record { link = row; next = link + 1 } ∷ []) ++ record { link = get_or (L row) link 0; next = 0 } ∷ [])
    walk-enter next whole vs row link walk low high =
        let now : Visit ℕ = record { link = row; next = link } in
        let more : Visit ℕ = record { link = row; next = link + 1 } in
        let child : ℕ = get_or (L row) link 0 in
        let entered : Visit ℕ = record { link = child; next = 0 } in
        let falls = falls-last n next vs now walk.falls in
        let smaller : child < row = down row child (count-get_or (L row) link low) in
        let small : child < n = omega (arith, smaller, falls-low n (row + 1) vs falls.0) in
        let all : pending ((vs ++ more ∷ []) ++ entered ∷ []) ≡ places n L child ++ pending (vs ++ more ∷ []) =
        pending-last (vs ++ more ∷ []) entered ∙ ap (λ ys. ys ++ pending (vs ++ more ∷ [])) (sym (places-is (λ l. l) L down n child small)) in
        record {
          falls = falls-more n next (vs ++ more ∷ []) entered (falls-more n (child + 1) vs more falls.0 (omega (arith, smaller))) high;
          total = ap (with_all_new (range_with_len 0 next)) (all ∙ sym (pending-next vs row link low)) ∙ walk.total;
        }

    places-some : (k : ℕ) → k < n → length (places n L k) ≡ length (flat_map (places n L) (L k)) + 1
    places-some k low = ap length (places-is (λ l. l) L down n k low) ∙ length-append (flat_map (places n L) (L k)) (k ∷ [])

    steps-skip : (vs : List (Visit ℕ)) (row link : ℕ) → row < n → link < length (L row) → steps_left (vs ++ record { link = row; next = link + 1 } ∷ []) < steps_left (vs ++ record { link = row; next = link } ∷ [])
    steps-skip vs row link within low =
        let now : Visit ℕ = record { link = row; next = link } in
        let more : Visit ℕ = record { link = row; next = link + 1 } in
        let child : ℕ = get_or (L row) link 0 in
        let small : child < n = omega (arith, down row child (count-get_or (L row) link low), within) in
        omega (arith, steps-last vs now, steps-last vs more, ap length (below-next row link low), length-append (places n L child) (below_visit more), places-some child small)

    steps-enter : (vs : List (Visit ℕ)) (row link : ℕ) → row < n → link < length (L row)
        → steps_left ((vs ++ record { link = row; next = link + 1 } ∷ []) ++ record { link = get_or (L row) link 0; next = 0 } ∷ []) < steps_left (vs ++ record { link = row; next = link } ∷ [])
    steps-enter vs row link within low =
        let now : Visit ℕ = record { link = row; next = link } in
        let more : Visit ℕ = record { link = row; next = link + 1 } in
        let child : ℕ = get_or (L row) link 0 in
        let entered : Visit ℕ = record { link = child; next = 0 } in
        let small : child < n = omega (arith, down row child (count-get_or (L row) link low), within) in
        omega (arith, steps-last vs now, steps-last vs more, steps-last (vs ++ more ∷ []) entered, ap length (below-next row link low), length-append (places n L child) (below_visit more), places-some child small)

-- a turn: the last visit is taken off, its row is read, and this is its next link, if one is left
pub record IsTurn (rows : List Row) (old vs : List (Visit ℕ)) (v : Visit ℕ) (row : Row) (found : Option ℕ) : Type 0 where
  pub popped : old ≡ vs ++ v ∷ []
  pub at : row ≡ get_or rows v.link row
  pub read : found ≡ slice_get (links_of (Some (row_form row))) v.next

module _ (rows : List Row) where
  abbrev links : Links
  links = links_from (map row_form rows)

  abbrev pub Walk : ℕ → List ℕ → List (Visit ℕ) → Type 0
  Walk = IsWalk (length rows) links

  abbrev pub left : List (Visit ℕ) → ℕ
  left = steps_left (length rows) links

  pub visit-low : (next : ℕ) (whole : List ℕ) (old vs : List (Visit ℕ)) (v : Visit ℕ) → old ≡ vs ++ v ∷ [] → Walk next whole old → v.link < length rows
  visit-low next whole old vs v popped walk = row-low (length rows) links next whole vs v (subst (Walk next whole) popped walk)

  module _ (next : ℕ) (whole : List ℕ) (old vs : List (Visit ℕ)) (v : Visit ℕ) (row : Row) (walk : Walk next whole old) where
    now : old ≡ vs ++ v ∷ [] → Walk next whole (vs ++ v ∷ [])
    now popped = subst (Walk next whole) popped walk

    read-links : (found : Option ℕ) → IsTurn rows old vs v row found → found ≡ slice_get (links v.link) v.next
    read-links found turn =
        let read : slice_get (map row_form rows) v.link ≡ Some (row_form row) =
        slice_get-map row_form rows v.link ∙ ap (option_map row_form) (slice_get_read rows (length rows) v.link row refl (visit-low next whole old vs v turn.popped walk) turn.at) in
        turn.read ∙ ap (λ r. slice_get (links_of r) v.next) (sym read)

    -- no link is left, and the row comes next
    pub turn-list : IsTurn rows old vs v row None → v.link ≡ next → Walk (next + 1) whole vs × (left vs < left old)
    turn-list turn same = (
      walk-list (length rows) links next whole vs v (now turn.popped) (none-left (length rows) links v.link v.next (read-links None turn)) same,
      omega (arith, ap left turn.popped, steps-less (length rows) links vs v),
    )

    -- no link is left, and another row comes next
    pub turn-stops : IsTurn rows old vs v row None → v.link ≢ next → ¬ CountsUp whole
    turn-stops turn other = walk-stops (length rows) links next whole vs v (now turn.popped) (none-left (length rows) links v.link v.next (read-links None turn)) other

    module _ (back : rows_lead_back 0 (map row_form rows) ≡ true) (mid : List (Visit ℕ)) (child : ℕ) (turn : IsTurn rows old vs v row (Some child)) (pushed : mid ≡ vs ++ record { link = v.link; next = v.next + 1 } ∷ []) where
      low : v.next < length (links v.link)
      low = slice_get_within (links v.link) v.next child (sym (read-links (Some child) turn))

      is_child : get_or (links v.link) v.next 0 ≡ child
      is_child = get_or_from_slice_get (links v.link) v.next child 0 (sym (read-links (Some child) turn))

      -- the link is listed already
      pub turn-skip : child < next → Walk next whole mid × (left mid < left old)
      turn-skip small = (
        subst (Walk next whole) (sym pushed) (walk-skip (length rows) links (rows-down (map row_form rows) back) next whole vs v.link v.next (now turn.popped) low (omega (arith, is_child, small))),
        omega (arith, ap left turn.popped, ap left pushed, steps-skip (length rows) links (rows-down (map row_form rows) back) vs v.link v.next (visit-low next whole old vs v turn.popped walk) low),
      )

      -- the link gets a visit
      pub turn-enter : (new : List (Visit ℕ)) → new ≡ mid ++ record { link = child; next = 0 } ∷ [] → next ≤ child → Walk next whole new × (left new < left old)
      turn-enter new entered high =
          let e : new ≡ (vs ++ record { link = v.link; next = v.next + 1 } ∷ []) ++ record { link = get_or (links v.link) v.next 0; next = 0 } ∷ [] =
          entered ∙ ap (λ ys. ys ++ record { link = child; next = 0 } ∷ []) pushed ∙ ap (λ k. (vs ++ record { link = v.link; next = v.next + 1 } ∷ []) ++ record { link = k; next = 0 } ∷ []) (sym is_child) in (
            subst (Walk next whole) (sym e) (walk-enter (length rows) links (rows-down (map row_form rows) back) next whole vs v.link v.next (now turn.popped) low (omega (arith, is_child, high))),
            omega (arith, ap left turn.popped, ap left e, steps-enter (length rows) links (rows-down (map row_form rows) back) vs v.link v.next (visit-low next whole old vs v turn.popped walk) low),
          )

  module _ (back : rows_lead_back 0 (map row_form rows) ≡ true) where
    pub walk-from : (next root : ℕ) → next ≤ root → root < length rows → Walk next (with_all_new (range_with_len 0 next) (places (length rows) links root)) (record { link = root; next = 0 } ∷ [])
    walk-from next root high low = walk-start (length rows) links (rows-down (map row_form rows) back) next root high low

    -- a row that is listed lists nothing more
    pub listed-already : (next root : ℕ) → root < next → with_all_new (range_with_len 0 next) (places (length rows) links root) ≡ range_with_len 0 next
    listed-already next root low = listed-places (length rows) links (rows-down (map row_form rows) back) next root low
