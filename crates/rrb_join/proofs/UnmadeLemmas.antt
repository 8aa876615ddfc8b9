-- Links of which rows are to be made, at a leaf's height and above.
use Rattle.std.proofs.Common.{◌≡◌, ℕ, suc, zero, ◌-◌, ◌+◌, ◌<◌, ◌≤◌, ◌^◌, List, [], ◌∷◌, ◌++◌, length, take, drop, get_or, refl, ap, sym, ◌∙◌, arith, inl, inr, length-append, length-drop, append-nil, take-append-drop, IsSome}
use Rattle.std.specs.List.{All, flat_map}
use Rattle.std.proofs.lemmas.List.{length-take, length-take-le, get_or-take, nil_from_length, take_rest}
use Rattle.std.proofs.lemmas.Bool.{cases_lt}
use Rattle.std.proofs.lemmas.List.Concat.{flat_map-append}
use Rattle.std.proofs.lemmas.List.Elements.{All-nil, All-cons, All-append, All-drop}
use Rattle.node_heap.specs.Links.{count}
use Rattle.node_heap.specs.Heap.{Heap, row_at, form_at, links_at, holds_at, hold_count, IsGraph, most_holds}
use Rattle.node_heap.specs.Calls.{Builds}
use Rattle.rrb_core.specs.Seq.{seq_at, IsThick, IsWell}
use Rattle.rrb_core.specs.Vector.{HasSums, height_at, elements, IsGoodVector}
use Rattle.rrb_core.proofs.ClosedRows.{Stays}
use Rattle.rrb_core.specs.Build.{IsRowOf, AreRows}
use Rattle.rrb_join.specs.Unmade.{items_below, AreLinks, AreThick, AreUnmade, CanBeRows}
use Rattle.rrb_join.specs.Rest.{AreHalves}
use Rattle.rrb_core.proofs.Lists.{child-short}
use Rattle.rrb_core.proofs.LinkCounts.{count-split}
use Rattle.node_heap.proofs.BuildLemmas.{Builds-beside}
use Rattle.node_heap.specs.declared.row.TheConstants.{MOST_HEIGHT}
use Rattle.rrb_core.proofs.FillRule.{well-most, thick-low, links-some}
use Rattle.rrb_core.proofs.Stays.{links-form, well-live, links-stay, items-stay, thick-stays, all-thick-stay, rows-stay, row-stays}
use Rattle.rrb_core.proofs.RowLists.{rows-append, rows-take, rows-drop, take-thick, rows-live, inner-thick, leaf-thick, over}

module _ {T : Type 0} (h : Heap T) where
  pub leaf-items : (n : ℕ) (ls : List ℕ) → n ≡ 0 → items_below h n ls ≡ ls
  unfolding items_below
  leaf-items zero ls e = refl
  leaf-items (suc n) ls e = absurd (omega arith)

  pub inner-items : (n : ℕ) (ls : List ℕ) → 0 < n → items_below h n ls ≡ flat_map (seq_at (form_at h) (n - 1)) ls
  unfolding items_below
  inner-items zero ls p = absurd (omega arith)
  inner-items (suc n) ls p = let e : suc n - 1 ≡ n = omega arith in rw e refl

  pub inner-links : (n : ℕ) (ls : List ℕ) → 0 < n → AreLinks h n ls → AreRows h (n - 1) ls
  unfolding AreLinks
  inner-links zero ls p a = absurd (omega arith)
  inner-links (suc n) ls p a = let e : suc n - 1 ≡ n = omega arith in rw e a

  -- rows of a height are links of the next, and so are their elements and whether all are thick
  pub rows-above : (n : ℕ) (ls : List ℕ) → AreRows h n ls → AreLinks h (suc n) ls
  unfolding AreLinks
  rows-above n ls r = r

  pub items-above : (n : ℕ) (ls : List ℕ) → items_below h (suc n) ls ≡ flat_map (seq_at (form_at h) n) ls
  unfolding items_below
  items-above n ls = refl

  pub thick-above : (n : ℕ) (ls : List ℕ) → All (IsThick (form_at h) n) ls → AreThick h (suc n) ls
  unfolding AreThick
  thick-above n ls t = t

  pub thick-rows : (n : ℕ) (ls : List ℕ) → AreThick h (suc n) ls → All (IsThick (form_at h) n) ls
  unfolding AreThick
  thick-rows n ls t = t

  pub links-rows : (n : ℕ) (ls : List ℕ) → AreLinks h (suc n) ls → AreRows h n ls
  unfolding AreLinks
  links-rows n ls a = a

  pub leaf-are-links : (n : ℕ) (ls : List ℕ) → n ≡ 0 → AreLinks h n ls
  unfolding AreLinks
  leaf-are-links zero ls e = tt
  leaf-are-links (suc n) ls e = absurd (omega arith)

  pub leaf-are-thick : (n : ℕ) (ls : List ℕ) → n ≡ 0 → AreThick h n ls
  unfolding AreThick
  leaf-are-thick zero ls e = tt
  leaf-are-thick (suc n) ls e = absurd (omega arith)

  pub links-take : (n i : ℕ) (ls : List ℕ) → AreLinks h n ls → i ≤ length ls → AreLinks h n (take i ls)
  unfolding AreLinks
  links-take zero i ls a le = tt
  links-take (suc n) i ls a le = rows-take h n i ls a le

  pub links-drop : (n i : ℕ) (ls : List ℕ) → AreLinks h n ls → AreLinks h n (drop i ls)
  unfolding AreLinks
  links-drop zero i ls a = tt
  links-drop (suc n) i ls a = rows-drop h n i ls a

  pub links-append : (n : ℕ) (ks js : List ℕ) → AreLinks h n ks → AreThick h n ks → AreLinks h n js → AreLinks h n (ks ++ js)
  unfolding AreLinks AreThick
  links-append zero ks js a full b = tt
  links-append (suc n) ks js a full b = rows-append h n ks js a b (λ some. full)

  pub thick-take : (n i : ℕ) (ls : List ℕ) → AreLinks h n ls → i < length ls → AreThick h n (take i ls)
  unfolding AreLinks AreThick
  thick-take zero i ls a lt = tt
  thick-take (suc n) i ls a lt = take-thick h n i ls a lt

  pub thick-drop : (n i : ℕ) (ls : List ℕ) → AreThick h n ls → AreThick h n (drop i ls)
  unfolding AreThick
  thick-drop zero i ls t = tt
  thick-drop (suc n) i ls t = All-drop (IsThick (form_at h) n) i ls t

  pub thick-append : (n : ℕ) (ks js : List ℕ) → AreThick h n ks → AreThick h n js → AreThick h n (ks ++ js)
  unfolding AreThick
  thick-append zero ks js a b = tt
  thick-append (suc n) ks js a b = All-append (IsThick (form_at h) n) ks js a b

  pub items-append : (n : ℕ) (ks js : List ℕ) → items_below h n (ks ++ js) ≡ items_below h n ks ++ items_below h n js
  unfolding items_below
  items-append zero ks js = refl
  items-append (suc n) ks js = flat_map-append (seq_at (form_at h) n) ks js

  pub items-split : (n i : ℕ) (ls : List ℕ) → items_below h n ls ≡ items_below h n (take i ls) ++ items_below h n (drop i ls)
  items-split n i ls = ap (items_below h n) (sym (take-append-drop i ls)) ∙ items-append n (take i ls) (drop i ls)

  -- the links of a row
  pub record HasLinks (n l : ℕ) : Type 0 where
    pub live : IsSome (row_at h l)
    pub most : length (links_at h l) ≤ 32
    pub links : AreLinks h n (links_at h l)
    pub items : items_below h n (links_at h l) ≡ seq_at (form_at h) n l
    pub thick : IsThick (form_at h) n l → (16 ≤ length (links_at h l)) × AreThick h n (links_at h l)

  pub has-links : (n l : ℕ) → IsWell (form_at h) n l → HasSums h n l → HasLinks n l
  unfolding AreLinks items_below seq_at AreThick IsThick
  has-links zero l w s =
      record {
        live = well-live h zero l w;
        most = rw (← links-form h l) (well-most (form_at h) zero l w);
        links = tt;
        items = sym (links-form h l);
        thick = λ t. (rw (← links-form h l) t, tt);
      }
  has-links (suc n) l w s =
      let o = over h n l w s in
      record { live = o.live; most = o.most; links = o.rows; items = sym o.items; thick = λ t. o.thick t }

  -- a row, with one element or more, by its links
  pub row-one : (n l : ℕ) (xs : List ℕ) → IsRowOf h n l xs → 1 ≤ length (links_at h l) → AreRows h n (l ∷ [])
  row-one n l xs r some =
      record {
        well = All-cons (IsWell (form_at h) n) l [] r.well (All-nil (IsWell (form_at h) n));
        thick = All-nil (IsThick (form_at h) n);
        not_empty = All-cons (λ k. 1 ≤ length (links_at h k)) l [] some (All-nil (λ k. 1 ≤ length (links_at h k)));
        sums = All-cons (HasSums h n) l [] r.sums (All-nil (HasSums h n));
      }

  pub items-one : (n l : ℕ) (xs : List ℕ) → IsRowOf h n l xs → flat_map (seq_at (form_at h) n) (l ∷ []) ≡ xs
  items-one n l xs r = append-nil (seq_at (form_at h) n l) ∙ r.items

  pub thick-one : (n l : ℕ) → IsThick (form_at h) n l → All (IsThick (form_at h) n) (l ∷ [])
  thick-one n l t = All-cons (IsThick (form_at h) n) l [] t (All-nil (IsThick (form_at h) n))

-- what stays
module _ {T : Type 0} {P : ℕ → Type 0} {old new : Heap T} (s : Stays P old new) where
  pub links-later : (n : ℕ) (ls : List ℕ) → (0 < n → All P ls) → AreLinks old n ls → AreLinks new n ls
  unfolding AreLinks
  links-later zero ls named a = tt
  links-later (suc n) ls named a = rows-stay s n ls (named (omega arith)) a

  pub items-later : (n : ℕ) (ls : List ℕ) → (0 < n → All P ls) → items_below new n ls ≡ items_below old n ls
  unfolding items_below
  items-later zero ls named = refl
  items-later (suc n) ls named = items-stay s n ls (named (omega arith))

  pub thick-later : (n : ℕ) (ls : List ℕ) → (0 < n → All P ls) → AreThick old n ls → AreThick new n ls
  unfolding AreThick
  thick-later zero ls named t = tt
  thick-later (suc n) ls named t = all-thick-stay s n ls (named (omega arith)) t

-- links above leaves are live
pub links-live : {T : Type 0} (h : Heap T) (n : ℕ) (ls : List ℕ) → AreLinks h n ls → 0 < n → All (λ k. IsSome (row_at h k)) ls
unfolding AreLinks
links-live h zero ls a p = absurd (omega arith)
links-live h (suc n) ls a p = rows-live h n ls a

-- a row over enough links, of which all are thick, is thick
pub row-thick : {T : Type 0} (old new : Heap T) (n l : ℕ) (ls : List ℕ) → Stays (λ k. IsSome (row_at old k)) old new → AreLinks old n ls → links_at new l ≡ ls → 16 ≤ length ls → AreThick old n ls → IsThick (form_at new) n l
unfolding AreLinks AreThick
row-thick old new zero l ls s a is enough t = leaf-thick new l ls is enough
row-thick old new (suc n) l ls s a is enough t = inner-thick new old n l ls s a is enough t

-- rows can be made over unmade links that are held
pub unmade-rows : {T : Type 0} {h : Heap T} {n : ℕ} {ls xs : List ℕ} → AreUnmade h n ls xs → IsGraph h → n ≤ MOST_HEIGHT → length xs < 2 ^ 32 → ((k : ℕ) → count k ls ≤ holds_at h k) → hold_count h < most_holds → CanBeRows h n ls
unmade-rows unmade graph low short held few = record { graph = graph; links = unmade.links; some = unmade.some; low = low; short = rw unmade.items short; held = held; holds = few }

-- what one row or two are over these links
pub record AreOver {T : Type 0} (old new : Heap T) (n : ℕ) (made ls : List ℕ) : Type 0 where
  pub rows : AreRows new n made
  pub items : flat_map (seq_at (form_at new) n) made ≡ items_below old n ls
  pub links : flat_map (links_at new) made ≡ ls
  pub thick : 16 ≤ length ls → AreThick old n ls → All (IsThick (form_at new) n) made

pub one-over : {T : Type 0} (old new : Heap T) (n a : ℕ) (ls : List ℕ) → Stays (λ k. IsSome (row_at old k)) old new → AreLinks old n ls → 1 ≤ length ls
    → IsRowOf new n a (items_below old n ls) → links_at new a ≡ ls → AreOver old new n (a ∷ []) ls
one-over old new n a ls s links some row is =
    record {
      rows = row-one new n a (items_below old n ls) row (rw is some);
      items = items-one new n a (items_below old n ls) row;
      links = append-nil (links_at new a) ∙ is;
      thick = λ enough full. thick-one new n a (row-thick old new n a ls s links is enough full);
    }

-- what two rows are over these links, of which the first has the front and the second the rest
pub record AreTwoOver {T : Type 0} (old mid new : Heap T) (n a b : ℕ) (ls : List ℕ) : Type 0 where
  pub items : flat_map (seq_at (form_at new) n) (a ∷ b ∷ []) ≡ items_below old n ls
  pub links : flat_map (links_at new) (a ∷ b ∷ []) ≡ ls
  pub rows : 16 ≤ length (links_at mid a) → 1 ≤ length (links_at new b) → AreRows new n (a ∷ b ∷ [])
  pub halves : 16 ≤ length (links_at mid a) → 17 ≤ length (links_at new b) → AreHalves new (a ∷ b ∷ [])
  pub thick : 16 ≤ length (links_at mid a) → 16 ≤ length (links_at new b) → AreThick old n ls → All (IsThick (form_at new) n) (a ∷ b ∷ [])

pub two-over : {T : Type 0} {old mid new : Heap T} {n a b : ℕ} (i : ℕ) (ls : List ℕ) → Stays (λ k. IsSome (row_at old k)) old mid → Stays (λ k. IsSome (row_at mid k)) mid new → AreLinks old n ls
    → IsRowOf mid n a (items_below old n (take i ls)) → links_at mid a ≡ take i ls
    → IsRowOf new n b (items_below mid n (take (length ls - i) (drop i ls))) → links_at new b ≡ take (length ls - i) (drop i ls) → AreTwoOver old mid new n a b ls
two-over {T} {old} {mid} {new} {n} {a} {b} i ls s s' links one one-is two two-is =
    let cut : take (length ls - i) (drop i ls) ≡ drop i ls = take_rest ls i in
    let rest : AreLinks old n (drop i ls) = links-drop old n i ls links in
    let named : 0 < n → All (λ k. IsSome (row_at old k)) (drop i ls) = λ p. links-live old n (drop i ls) rest p in
    let live : IsSome (row_at mid a) = well-live mid n a one.well in
    let later : IsRowOf new n a (items_below old n (take i ls)) = row-stays s' n a (items_below old n (take i ls)) live one in
    let same : items_below mid n (take (length ls - i) (drop i ls)) ≡ items_below old n (drop i ls) = rw cut (items-later s n (drop i ls) named) in
    let first : 16 ≤ length (links_at mid a) → i < length ls → IsThick (form_at new) n a =
    λ low inside. thick-stays s' n a live (row-thick old mid n a (take i ls) s (links-take old n i ls links (omega (arith, inside))) one-is (rw one-is at low) (thick-take old n i ls links inside)) in
    let all : links_at new a ++ (links_at new b ++ []) ≡ ls = rw (links-stay s' a live, one-is, two-is, cut, append-nil) (take-append-drop i ls) in
    let within : 1 ≤ length (links_at new b) → i < length ls = λ some. omega (arith, length-drop i ls, rw (two-is, cut) at some) in
    record {
      items = ap (λ (xs : List ℕ). xs ++ flat_map (seq_at (form_at new) n) (b ∷ [])) later.items ∙ ap (λ (xs : List ℕ). items_below old n (take i ls) ++ xs) (items-one new n b (items_below mid n (take (length ls - i) (drop i ls))) two ∙ same) ∙ sym (items-split old n i ls);
      links = all;
      rows = λ low some.
          rows-append new n (a ∷ []) (b ∷ []) (row-one new n a (items_below old n (take i ls)) later (rw (links-stay s' a live) (omega (arith, low)))) (row-one new n b (items_below mid n (take (length ls - i) (drop i ls))) two some) (λ _. thick-one new n a (first low (within some)));
      halves = λ low low'. record { most = omega arith; first = λ _. rw (links-stay s' a live) low; second = λ _. low' };
      thick = λ low low' full.
          All-cons (IsThick (form_at new) n) a (b ∷ []) (first low (within (omega (arith, low')))) (thick-one new n b (row-thick mid new n b (take (length ls - i) (drop i ls)) s' (rw cut (links-later s n (drop i ls) named rest)) two-is (rw two-is at low') (rw cut (thick-later s n (drop i ls) named (thick-drop old n i ls full)))));
    }

-- what the rest needs to be made a row, after the front was
pub links-rest : {T : Type 0} {old mid : Heap T} (n i : ℕ) (ls : List ℕ) → Stays (λ k. IsSome (row_at old k)) old mid → AreLinks old n ls → AreLinks mid n (take (length ls - i) (drop i ls))
links-rest {T} {old} {mid} n i ls s links =
    let rest : AreLinks old n (drop i ls) = links-drop old n i ls links in
    rw (take_rest ls i) (links-later s n (drop i ls) (λ p. links-live old n (drop i ls) rest p) rest)

pub held-rest : {T : Type 0} {old mid : Heap T} {a m : ℕ} (i : ℕ) (ls : List ℕ) → Builds old mid (take i ls) (a ∷ []) 0 m → ((k : ℕ) → count k ls ≤ holds_at old k) → (k : ℕ) → count k (take (length ls - i) (drop i ls)) ≤ holds_at mid k
held-rest {T} {old} {mid} {a} {m} i ls built held k = rw (take_rest ls i) (omega (arith, held k, count-split k i ls, built.holds k))

pub builds-two : {T : Type 0} {old mid new : Heap T} {a b : ℕ} (i : ℕ) (ls : List ℕ) → Builds old mid (take i ls) (a ∷ []) 0 1 → Builds mid new (take (length ls - i) (drop i ls)) (b ∷ []) 0 1 → Builds old new ls (a ∷ b ∷ []) 0 2
builds-two {T} {old} {mid} {new} {a} {b} i ls one two =
    let both = Builds-beside one (rw (take_rest ls i) at two) in
    rw (take-append-drop i ls) at both

-- how long they are
pub front-long : (m i : ℕ) (ls : List ℕ) → m ≤ i → m ≤ length ls → m ≤ length (take i ls)
front-long m i ls enough some = omega (arith, length-take i ls, enough, some)

pub rest-long : (m i : ℕ) (ls : List ℕ) → i + m ≤ length ls → m ≤ length (take (length ls - i) (drop i ls))
rest-long m i ls enough = rw (take_rest ls i) (omega (arith, length-drop i ls, enough))

-- two rows pushed one after the other
pub two-pushed : (none one two : List ℕ) (a b : ℕ) → none ≡ [] → one ≡ none ++ a ∷ [] → two ≡ one ++ b ∷ [] → two ≡ a ∷ b ∷ []
two-pushed none one two a b e f g = g ∙ rw (f, e) refl

-- two rows of one height are below the last height
pub two-low : {T : Type 0} (h : Heap T) (n : ℕ) (ks : List ℕ) → AreRows h n ks → 2 ≤ length ks → n ≤ MOST_HEIGHT → length (flat_map (seq_at (form_at h) n) ks) < 2 ^ 32 → n < MOST_HEIGHT
two-low h n ks r two low short =
    let at : get_or (take 1 ks) 0 0 ≡ get_or ks 0 0 = get_or-take 1 ks 0 0 (omega arith) in
    let t : IsThick (form_at h) n (get_or (take 1 ks) 0 0) = take-thick h n 1 ks r (omega arith) 0 0 (omega (arith, length-take-le 1 ks (omega arith))) in
    thick-low (form_at h) n (get_or ks 0 0) (rw at at t) low (omega (arith, child-short (seq_at (form_at h) n) ks 0 (omega arith), short))

-- no part has more elements than the whole
pub take-fewer : {T : Type 0} (h : Heap T) (n i : ℕ) (ls : List ℕ) → length (items_below h n (take i ls)) ≤ length (items_below h n ls)
take-fewer h n i ls = omega (arith, ap length (items-split h n i ls), length-append (items_below h n (take i ls)) (items_below h n (drop i ls)))

pub drop-fewer : {T : Type 0} (h : Heap T) (n i : ℕ) (ls : List ℕ) → length (items_below h n (drop i ls)) ≤ length (items_below h n ls)
drop-fewer h n i ls = omega (arith, ap length (items-split h n i ls), length-append (items_below h n (take i ls)) (items_below h n (drop i ls)))

pub front-short : {T : Type 0} (h : Heap T) (n i : ℕ) {m : ℕ} (ls : List ℕ) → length (items_below h n ls) < m → length (items_below h n (take i ls)) < m
front-short {T} h n i {m} ls short = omega (arith, take-fewer h n i ls, short)

pub rest-short : {T : Type 0} {old mid : Heap T} (n i : ℕ) {m : ℕ} (ls : List ℕ) → Stays (λ k. IsSome (row_at old k)) old mid → AreLinks old n ls → length (items_below old n ls) < m → length (items_below mid n (take (length ls - i) (drop i ls))) < m
rest-short {T} {old} {mid} n i {m} ls s links short =
    let same : items_below mid n (drop i ls) ≡ items_below old n (drop i ls) = items-later s n (drop i ls) (λ p. links-live old n (drop i ls) (links-drop old n i ls links) p) in
    rw (take_rest ls i, same) (omega (arith, drop-fewer old n i ls, short))

-- a root without links has no elements
pub no-elements : {T : Type 0} (h : Heap T) (l : ℕ) → IsGoodVector h l → length (links_at h l) ≡ 0 → elements h l ≡ []
no-elements h l good none =
    let some : 1 ≤ length (elements h l) → 1 ≤ length (links_at h l) = λ more. rw (← links-form h l) (links-some (form_at h) (height_at h l) l good.shape.well more) in
    nil_from_length (elements h l) (elim (cases_lt 0 (length (elements h l))) as (λ _. length (elements h l) ≡ 0) [ inl lt ↦ omega (arith, some lt, none) | inr ge ↦ omega arith ])

-- a leaf has as many links as elements
pub leaf-length : {T : Type 0} (h : Heap T) (n l : ℕ) → n ≡ 0 → IsWell (form_at h) n l → HasSums h n l → length (links_at h l) ≡ length (seq_at (form_at h) n l)
leaf-length h n l e w s = ap length (sym (leaf-items h n (links_at h l) e) ∙ (has-links h n l w s).items)
