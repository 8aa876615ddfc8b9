-- Rows on the way to an element, and lists that begin alike.
use Rattle.std.proofs.Common.{◌≡◌, ℕ, suc, ◌+◌, ◌-◌, ◌<◌, ◌≤◌, ◌^◌, List, [], ◌++◌, length, take, drop, get_or, min, refl, ap, sym, subst, ◌∙◌, arith, append-nil, append_assoc, length-append, length-drop, Option, None, Some, IfNone}
use Rattle.std.specs.List.{All, AllZip, flat_map}
use Rattle.std.proofs.lemmas.List.{take_at, take_rest, take-append-le, length-take-le, get_or-take, get_or-drop}
use Rattle.std.proofs.lemmas.List.Elements.{All-take}
use Rattle.std.proofs.Math.Seq.{take-add}
use Rattle.node_heap.specs.Heap.{Heap, form_at, links_at}
use Rattle.rrb_core.specs.Seq.{height_in, seq_at}
use Rattle.rrb_core.specs.Vector.{height_at, elements, IsGoodVector}
use Rattle.rrb_core.proofs.FillRule.{height-is, seq-leaf}
use Rattle.rrb_core.proofs.Lists.{items-drop}
use Rattle.rrb_core.proofs.RowLists.{over, child-at}
use Rattle.rrb_core.proofs.Stays.{links-form}
use Rattle.same_value.specs.CompareLaws.{all-itself}
use Rattle.same_value.specs.declared.places.RowOnWay.{RowOnWay}
use Rattle.same_value.specs.Lines.{DifferSomewhere, BeginAlike}
use Rattle.same_value.specs.Places.{rest_of, IsOnWay}
use Rattle.same_value.proofs.Zips.{zip-by, zip-both, differ-inside}

module _ {T : Type 0} (h : Heap T) where
  -- the root of a vector
  pub root-way : (v index link height : ℕ) → IsGoodVector h v → link ≡ v → height ≡ height_at h v → index < length (elements h v) → IsOnWay h (drop index (elements h v)) (record { link = link; height = height; within = index })
  root-way v index link height good is high inside =
      let whole : drop index (seq_at (form_at h) height link) ≡ drop index (elements h v) = rw (is, high) refl in
      record {
        well = rw (is, high) good.shape.well;
        sums = rw (is, high) good.sums;
        low = rw high good.shape.low;
        short = rw (is, high) good.shape.short;
        inside = rw (is, high) inside;
        later = [];
        front = sym whole ∙ sym (append-nil (drop index (seq_at (form_at h) height link)));
      }

  -- the child of the row that has the element
  pub lower-way : (xs : List ℕ) (p : RowOnWay) (n i link within : ℕ) → suc n ≡ p.height → IsOnWay h xs p → i < length (links_at h p.link) → link ≡ get_or (links_at h p.link) i 0
      → within < length (seq_at (form_at h) n (get_or (links_at h p.link) i 0)) → length (flat_map (seq_at (form_at h) n) (take i (links_at h p.link))) + within ≡ p.within → IsOnWay h xs (record { link = link; height = n; within = within })
  lower-way xs p n i link within up way place at small before =
      let f : ℕ → List ℕ = seq_at (form_at h) n in
      let ks : List ℕ = links_at h p.link in
      let o = over h n p.link (rw up way.well) (rw up way.sums) in
      let child = child-at h n p.link i link o place at in
      let rest : List ℕ = flat_map f (drop (i + 1) ks) in
      let cut : drop p.within (flat_map f ks) ≡ drop within (f (get_or ks i 0)) ++ rest = items-drop f ks i within p.within place before (omega (arith, small)) in
      let whole : drop p.within (seq_at (form_at h) (suc n) p.link) ≡ drop within (f link) ++ rest = rw (o.items, at) cut in
      let here : rest_of h p ≡ drop within (f link) ++ rest = rw up at whole in
      let short : length (seq_at (form_at h) (suc n) p.link) < 2 ^ 32 = rw up way.short in
      record {
        well = child.well;
        sums = child.sums;
        low = omega (arith, way.low, up);
        short = omega (arith, child.short, short);
        inside = rw at small;
        later = rest ++ way.later;
        front = way.front ∙ ap (λ ys. ys ++ way.later) here ∙ append_assoc (drop within (f link)) rest way.later;
      }

module _ {T : Type 0} {h : Heap T} {xs : List ℕ} {p : RowOnWay} (way : IsOnWay h xs p) where
  pub rest-some : 1 ≤ length (rest_of h p)
  rest-some = omega (arith, length-drop p.within (seq_at (form_at h) p.height p.link), way.inside)

  -- what holds of all elements holds of those below the row
  pub rest-all : (P : ℕ → Type 0) → All P xs → All P (rest_of h p)
  rest-all P all = subst (All P) (ap (take (length (rest_of h p))) way.front ∙ take_at (rest_of h p) way.later (length (rest_of h p)) refl) (All-take P (length (rest_of h p)) xs all)

  -- the links of a leaf that were read
  module _ (none : p.height ≤ 0) (links : List ℕ) (is : links ≡ links_at h p.link) where
    leaf-links : links ≡ seq_at (form_at h) p.height p.link
    leaf-links = is ∙ sym (links-form h p.link) ∙ sym (seq-leaf (form_at h) p.height p.link none)

    pub leaf-inside : p.within < length links
    leaf-inside = omega (arith, ap length leaf-links, way.inside)

    pub leaf-rest : take (length links - p.within) (drop p.within links) ≡ rest_of h p
    leaf-rest = take_rest links p.within ∙ ap (drop p.within) leaf-links

module _ (R : ℕ → ℕ → Type 0) where
  -- lists whose first elements go together one by one, as many as the shorter has
  pub alike-by : (count : ℕ) (xs ys : List ℕ) → count ≡ min (length xs) (length ys) → 1 ≤ length xs → 1 ≤ length ys → ((i : ℕ) → i < count → R (get_or xs i 0) (get_or ys i 0)) → BeginAlike R count xs ys
  alike-by count xs ys is some some' each =
      let low : count ≤ length xs = omega (arith, is) in
      let low' : count ≤ length ys = omega (arith, is) in
      let size : length (take count xs) ≡ count = length-take-le count xs low in
      record {
        some = omega (arith, is, some, some');
        first = low;
        second = low';
        alike = zip-by R (take count xs) (take count ys) (size ∙ sym (length-take-le count ys low'))
            (λ i lt. let lt' : i < count = omega (arith, lt, size) in rw (get_or-take count xs i 0 lt', get_or-take count ys i 0 lt') (each i lt'));
      }

  -- lists that begin alike, with more behind them
  pub alike-more : (count : ℕ) (xs ys us vs : List ℕ) → BeginAlike R count xs ys → BeginAlike R count (xs ++ us) (ys ++ vs)
  alike-more count xs ys us vs b =
      record {
        some = b.some;
        first = omega (arith, b.first, length-append xs us);
        second = omega (arith, b.second, length-append ys vs);
        alike = rw (take-append-le count xs us b.first, take-append-le count ys vs b.second) b.alike;
      }

  -- lists that begin with one list
  pub alike-shared : (P : ℕ → Type 0) → ((x : ℕ) → P x → R x x) → (row us vs : List ℕ) → All P row → 1 ≤ length row → BeginAlike R (length row) (row ++ us) (row ++ vs)
  alike-shared P itself row us vs all some =
      record {
        some = some;
        first = omega (arith, length-append row us);
        second = omega (arith, length-append row vs);
        alike = rw (take_at row us (length row) refl, take_at row vs (length row) refl) (all-itself R P itself row all);
      }

  -- lists that go together up to a place and begin alike behind it
  pub zip-behind : (i count : ℕ) (xs ys : List ℕ) → AllZip R (take i xs) (take i ys) → BeginAlike R count (drop i xs) (drop i ys) → AllZip R (take (i + count) xs) (take (i + count) ys)
  zip-behind i count xs ys before b = rw (take-add i count xs, take-add i count ys) (zip-both R (take i xs) (take i ys) (take count (drop i xs)) (take count (drop i ys)) before b.alike)

  -- lists that differ behind a place
  pub differ-behind : (i : ℕ) (xs ys : List ℕ) → DifferSomewhere R (drop i xs) (drop i ys) → DifferSomewhere R xs ys
  differ-behind i xs ys d =
      record {
        place = i + d.place;
        first = omega (arith, d.first, length-drop i xs);
        second = omega (arith, d.second, length-drop i ys);
        differ = λ is. d.differ (rw (get_or-drop i xs d.place 0, get_or-drop i ys d.place 0) is);
      }

  -- two leaves
  module _ {T : Type 0} {h : Heap T} {xs ys : List ℕ} {p q : RowOnWay} (way : IsOnWay h xs p) (way' : IsOnWay h ys q) where
    pub leaves-alike : (count : ℕ) → BeginAlike R count (rest_of h p) (rest_of h q) → BeginAlike R count xs ys
    leaves-alike count b = rw (way.front, way'.front) (alike-more count (rest_of h p) (rest_of h q) way.later way'.later b)

    pub leaves-differ : DifferSomewhere R (rest_of h p) (rest_of h q) → DifferSomewhere R xs ys
    leaves-differ d = rw (way.front, way'.front) (differ-inside R [] [] (rest_of h p) (rest_of h q) way.later way'.later tt d)

    -- one row, from its first element on
    pub row-alike : (P : ℕ → Type 0) → ((x : ℕ) → P x → R x x) → All P xs → p.link ≡ q.link → 1 ≤ p.height + q.height → (1 ≤ p.height → p.within ≡ 0) → (1 ≤ q.height → q.within ≡ 0)
        → (count : ℕ) → count ≡ length (seq_at (form_at h) p.height p.link) → BeginAlike R count xs ys
    row-alike P itself all same some begins begins' count is =
        let F = form_at h in
        let row : List ℕ = seq_at F p.height p.link in
        let heights : p.height ≡ q.height = sym (height-is F p.height p.link way.well) ∙ ap (height_in F) same ∙ height-is F q.height q.link way'.well in
        let none : p.within ≡ 0 = begins (omega (arith, some, heights)) in
        let none' : q.within ≡ 0 = begins' (omega (arith, some, heights)) in
        let left : rest_of h p ≡ row = ap (λ (i : ℕ). drop i row) none in
        let right : rest_of h q ≡ row = ap (λ (i : ℕ). drop i (seq_at F q.height q.link)) none' ∙ ap (λ (n : ℕ). seq_at F n q.link) (sym heights) ∙ ap (seq_at F p.height) (sym same) in
        let cells : All P row = subst (All P) left (rest-all way P all) in
        let inside : 1 ≤ length row = omega (arith, way.inside) in
        rw (is, way.front, way'.front, left, right) (alike-shared P itself row way.later way'.later cells inside)

-- what follows where there is no result
pub none-then : {P Q : Type 0} (o : Option ℕ) → IfNone o P → (P → Q) → IfNone o Q
none-then None here each = each here
none-then (Some n) here each = tt
