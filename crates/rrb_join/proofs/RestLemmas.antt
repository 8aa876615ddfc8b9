-- What is left of a row without its first elements, put before the next row.
use Rattle.std.proofs.Common.{◌≡◌, ℕ, suc, ◌-◌, ◌+◌, ◌<◌, ◌≤◌, List, [], ◌∷◌, ◌++◌, length, take, drop, get_or, refl, ap, sym, ◌∙◌, arith, inl, inr, length-append, length-drop, append-nil, append_assoc, IsSome}
use Rattle.std.specs.List.{All, flat_map}
use Rattle.std.proofs.lemmas.Bool.{cases_lt}
use Rattle.std.proofs.lemmas.List.{drop_all, drop_more}
use Rattle.std.proofs.lemmas.List.Concat.{flat_map-append}
use Rattle.std.proofs.lemmas.List.Elements.{All-append, All-drop, All-nil}
use Rattle.node_heap.specs.Heap.{Heap, row_at, form_at, links_at}
use Rattle.rrb_core.specs.Seq.{seq_at, IsThick, IsWell}
use Rattle.rrb_core.specs.Vector.{HasSums}
use Rattle.rrb_core.proofs.ClosedRows.{Stays}
use Rattle.rrb_core.specs.Build.{AreRows}
use Rattle.rrb_join.specs.Unmade.{items_below, AreLinks, AreThick, IsSomeRow, AreUnmade}
use Rattle.rrb_core.proofs.Lists.{items-drop}
use Rattle.rrb_core.proofs.Stays.{links-stay, seq-stays, well-stays, thick-stays, sums-stay, items-stay, all-thick-stay, rows-stay}
use Rattle.rrb_core.proofs.RowLists.{no-rows, rows-drop, rows-append, rows-live, IsOver, at-place, child-at}
use Rattle.rrb_join.proofs.UnmadeLemmas.{has-links, rows-above, items-above, thick-above, leaf-items, leaf-are-links, links-append, thick-append, items-append, links-later, items-later, thick-later, links-live}
use Rattle.rrb_core.specs.Levels.{rows_at}
use Rattle.rrb_join.specs.Rest.{PutsBefore}
use Rattle.rrb_core.proofs.LevelLemmas.{rows-kept, all-kept}
use Rattle.rrb_join.proofs.RestRows.{merged-before}
use Rattle.rrb_join.proofs.SeamLemmas.{child-thick, child-row}

pub row-later : {T : Type 0} {P : ℕ → Type 0} {old new : Heap T} → Stays P old new → (n l : ℕ) → P l → IsSomeRow old n l → IsSomeRow new n l
row-later s n l p r = record { well = well-stays s n l p r.well; sums = sums-stay s n l p r.sums; some = rw (links-stay s l p) r.some }

-- links before those of a row of their height
pub record IsMerged {T : Type 0} (h z : Heap T) (n k r : ℕ) (parts all : List ℕ) : Type 0 where
  pub unmade : AreUnmade z k all (items_below h k parts ++ seq_at (form_at h) n r)
  pub more : length parts < length all
  pub thick : IsThick (form_at h) n r → (16 ≤ length all) × AreThick z k all
  pub rows : PutsBefore h z k parts n r k all

pub merged : {T : Type 0} (h z : Heap T) (n k r : ℕ) (parts all : List ℕ) → Stays (λ x. IsSome (row_at h x)) h z → k ≡ n → AreLinks h k parts → AreThick h k parts → length parts ≤ 32
    → IsSomeRow h n r → all ≡ (take 0 (links_at h r) ++ parts) ++ drop 0 (links_at h r) → IsMerged h z n k r parts all
merged h z n k r parts all s e links thick few row is =
    let own = has-links h k r (rw e row.well) (rw e row.sums) in
    let size : length all ≡ length parts + length (links_at h r) = rw is (length-append parts (links_at h r)) in
    let whole : AreLinks h k (parts ++ links_at h r) = links-append h k parts (links_at h r) links thick own.links in
    let live = λ (up : 0 < k). links-live h k (parts ++ links_at h r) whole up in
    let items : items_below h k (parts ++ links_at h r) ≡ items_below h k parts ++ seq_at (form_at h) n r = rw (← e) (items-append h k parts (links_at h r) ∙ ap (λ xs. items_below h k parts ++ xs) own.items) in
    record {
      unmade = record {
        links = rw is (links-later s k (parts ++ links_at h r) live whole);
        items = rw is (items-later s k (parts ++ links_at h r) live ∙ items);
        some = omega (arith, size, row.some);
        most = omega (arith, size, few, own.most);
      };
      more = omega (arith, size, row.some);
      thick = λ t.
          let own-thick = own.thick (rw e t) in
          (omega (arith, size, own-thick.0), rw is (thick-later s k (parts ++ links_at h r) live (thick-append h k parts (links_at h r) thick own-thick.1)));
      rows = merged-before s e whole is;
    }

-- the later children of a row, beside links of which the height is known where there is a later child
pub record AreBeside {T : Type 0} (h z : Heap T) (below k l from : ℕ) : Type 0 where
  pub rows : AreRows z k (drop from (links_at z l))
  pub items : flat_map (seq_at (form_at z) k) (drop from (links_at z l)) ≡ flat_map (seq_at (form_at h) below) (drop from (links_at h l))
  pub thick : All (IsThick (form_at h) below) (drop from (links_at h l)) → All (IsThick (form_at z) k) (drop from (links_at z l))
  pub same : links_at z l ≡ links_at h l
  pub levels : (m : ℕ) → flat_map (rows_at (links_at z) k m) (drop from (links_at z l)) ≡ flat_map (rows_at (links_at h) below m) (drop from (links_at h l))

pub beside : {T : Type 0} (h z : Heap T) (below k l from : ℕ) → Stays (λ x. IsSome (row_at h x)) h z → IsOver h below l → (from < length (links_at h l) → k ≡ below) → AreBeside h z below k l from
beside h z below k l from s o more =
    let same : links_at z l ≡ links_at h l = links-stay s l o.live in
    elim (cases_lt from (length (links_at h l))) as (λ _. AreBeside h z below k l from) [
      | inl lt ↦
          let e : k ≡ below = more lt in
          let rows : AreRows h below (drop from (links_at h l)) = rows-drop h below from (links_at h l) o.rows in
          let live = rows-live h below (drop from (links_at h l)) rows in
          record {
            rows = rw (same, e) (rows-stay s below (drop from (links_at h l)) live rows);
            items = rw (same, e) (items-stay s below (drop from (links_at h l)) live);
            thick = rw (same, e) (λ t. all-thick-stay s below (drop from (links_at h l)) live t);
            same = same;
            levels = λ m. rw (same, e) (all-kept s below m (drop from (links_at h l)) live);
          }
      | inr ge ↦
          let none : drop from (links_at h l) ≡ [] = drop_all from (links_at h l) ge in
          record {
            rows = rw (same, none) (no-rows z k);
            items = rw (same, none) refl;
            thick = rw (same, none) (λ t. All-nil (IsThick (form_at z) k));
            same = same;
            levels = λ m. rw (same, none) refl;
          }
    ]

-- one row or two over the links, before the later children of a row
pub record IsRaised {T : Type 0} (h y z : Heap T) (k l from : ℕ) (ls made all : List ℕ) : Type 0 where
  pub unmade : AreUnmade z (suc k) all (items_below h k ls ++ flat_map (seq_at (form_at h) k) (drop from (links_at h l)))
  pub size : length all ≡ length made + (length (links_at h l) - from)
  pub thick : All (IsThick (form_at y) k) made → All (IsThick (form_at h) k) (drop from (links_at h l)) → AreThick z (suc k) all

pub raised : {T : Type 0} (h y z : Heap T) (k l from : ℕ) (ls made all : List ℕ) → Stays (λ x. IsSome (row_at h x)) h z → Stays (λ x. IsSome (row_at y x)) y z → links_at y l ≡ links_at h l
    → AreRows h k (drop from (links_at h l)) → AreRows y k made → flat_map (seq_at (form_at y) k) made ≡ items_below h k ls
    → (from < length (links_at h l) → All (IsThick (form_at y) k) made) → 1 ≤ length made → length made ≤ 2 → length (links_at h l) ≤ from + 31 → all ≡ (take 0 (links_at y l) ++ made) ++ drop from (links_at y l)
    → IsRaised h y z k l from ls made all
raised h y z k l from ls made all s s' same back rows items close some few fits gathered =
    let is : all ≡ made ++ drop from (links_at h l) = rw same at gathered in
    let back-live = rows-live h k (drop from (links_at h l)) back in
    let made-live = rows-live y k made rows in
    let size : length all ≡ length made + (length (links_at h l) - from) = rw is (omega (arith, length-append made (drop from (links_at h l)), length-drop from (links_at h l))) in
    record {
      unmade = record {
        links = rows-above z k all (rw is (rows-append z k made (drop from (links_at h l)) (rows-stay s' k made made-live rows) (rows-stay s k (drop from (links_at h l)) back-live back)
            (λ more. all-thick-stay s' k made made-live (close (omega (arith, length-drop from (links_at h l)))))));
        items = items-above z k all ∙ rw is (flat_map-append (seq_at (form_at z) k) made (drop from (links_at h l)) ∙ rw (items-stay s' k made made-live, items-stay s k (drop from (links_at h l)) back-live, items) refl);
        some = omega (arith, size, some);
        most = omega (arith, size, few, fits);
      };
      size = size;
      thick = λ t u. thick-above z k all (rw is (All-append (IsThick (form_at z) k) made (drop from (links_at h l)) (all-thick-stay s' k made made-live t) (all-thick-stay s k (drop from (links_at h l)) back-live u)));
    }

-- a rest that stays as it is, since no row stands beside it
pub kept : {T : Type 0} (h : Heap T) (k l from : ℕ) (ls : List ℕ) → length (links_at h l) ≤ from → AreLinks h k ls → 1 ≤ length ls → length ls ≤ 64 → AreUnmade h k ls (items_below h k ls ++ flat_map (seq_at (form_at h) k) (drop from (links_at h l)))
kept h k l from ls end links some most =
    let none : drop from (links_at h l) ≡ [] = drop_all from (links_at h l) end in
    record { links = links; items = rw none (sym (append-nil (items_below h k ls))); some = some; most = most }

-- the rest of a leaf
pub leaf-rest : {T : Type 0} (h z : Heap T) (n l count : ℕ) (all : List ℕ) → n ≡ 0 → IsWell (form_at h) n l → HasSums h n l → count < length (seq_at (form_at h) n l) → all ≡ (take 0 (links_at h l) ++ []) ++ drop count (links_at h l)
    → AreUnmade z 0 all (drop count (seq_at (form_at h) n l)) × (length all ≤ 32)
leaf-rest h z n l count all e well sums inside is =
    let own = has-links h n l well sums in
    let items : links_at h l ≡ seq_at (form_at h) n l = sym (leaf-items h n (links_at h l) e) ∙ own.items in
    let size : length all ≡ length (links_at h l) - count = rw is (length-drop count (links_at h l)) in
    let same : length (links_at h l) ≡ length (seq_at (form_at h) n l) = ap length items in (
      record {
        links = leaf-are-links z 0 all refl;
        items = leaf-items z 0 all refl ∙ is ∙ ap (drop count) items;
        some = omega (arith, size, same, inside);
        most = omega (arith, size, own.most);
      },
      omega (arith, size, own.most),
    )

module _ {T : Type 0} (h : Heap T) (below l : ℕ) (o : IsOver h below l) (i within count : ℕ) (lt : i < length (links_at h l)) (is : length (flat_map (seq_at (form_at h) below) (take i (links_at h l))) + within ≡ count) (inside : within < length (seq_at (form_at h) below (get_or (links_at h l) i 0))) where
  -- the rest of the last child is the rest of the row
  pub rest-last : (height : ℕ) → height ≡ suc below → i + 1 ≡ length (links_at h l) → drop within (seq_at (form_at h) below (get_or (links_at h l) i 0)) ≡ drop count (seq_at (form_at h) height l)
  rest-last height e end =
      let cut = items-drop (seq_at (form_at h) below) (links_at h l) i within count lt is (omega (arith, inside)) in
      let none : drop (i + 1) (links_at h l) ≡ [] = drop_all (i + 1) (links_at h l) (omega arith) in
      rw e (sym (rw o.items (rw (none, append-nil) at cut)))

  -- the rest of another child, the next one, and those after it are the rest of the row
  pub rest-next : i + 1 < length (links_at h l) → (drop within (seq_at (form_at h) below (get_or (links_at h l) i 0)) ++ seq_at (form_at h) below (get_or (links_at h l) (i + 1) 0)) ++ flat_map (seq_at (form_at h) below) (drop (i + 1 + 1) (links_at h l)) ≡ drop count (seq_at (form_at h) (suc below) l)
  rest-next more =
      let cut = items-drop (seq_at (form_at h) below) (links_at h l) i within count lt is (omega (arith, inside)) in
      let next : drop (i + 1) (links_at h l) ≡ get_or (links_at h l) (i + 1) 0 ∷ drop (i + 1 + 1) (links_at h l) = drop_more (links_at h l) (i + 1) 0 more in
      rw (o.items, cut, next) (append_assoc (drop within (seq_at (form_at h) below (get_or (links_at h l) i 0))) (seq_at (form_at h) below (get_or (links_at h l) (i + 1) 0)) (flat_map (seq_at (form_at h) below) (drop (i + 1 + 1) (links_at h l))))

  -- the rest of a child and the next one have no more elements than the row
  pub rest-short : i + 1 < length (links_at h l) → length (drop within (seq_at (form_at h) below (get_or (links_at h l) i 0))) + length (seq_at (form_at h) below (get_or (links_at h l) (i + 1) 0)) ≤ length (seq_at (form_at h) (suc below) l)
  rest-short more =
      let e = ap length (rest-next more) in
      omega (
        arith,
        e,
        length-append (drop within (seq_at (form_at h) below (get_or (links_at h l) i 0)) ++ seq_at (form_at h) below (get_or (links_at h l) (i + 1) 0)) (flat_map (seq_at (form_at h) below) (drop (i + 1 + 1) (links_at h l))),
        length-append (drop within (seq_at (form_at h) below (get_or (links_at h l) i 0))) (seq_at (form_at h) below (get_or (links_at h l) (i + 1) 0)),
        length-drop count (seq_at (form_at h) (suc below) l),
      )

-- the child in which the rest of a row begins isn't its last, and the next one stands in a later heap
pub record IsNext {T : Type 0} (h w : Heap T) (height below l i within count child next : ℕ) : Type 0 where
  pub more : i + 1 < length (links_at h l)
  pub place : next ≡ get_or (links_at h l) (i + 1) 0
  pub well : IsWell (form_at h) below next
  pub levels : (m : ℕ) → rows_at (links_at w) below m next ≡ rows_at (links_at h) below m next
  pub child_thick : IsThick (form_at h) below child
  pub row : IsSomeRow w below next
  pub same : seq_at (form_at w) below next ≡ seq_at (form_at h) below next
  pub items : (drop within (seq_at (form_at h) below child) ++ seq_at (form_at h) below next) ++ flat_map (seq_at (form_at h) below) (drop (i + 1 + 1) (links_at h l)) ≡ drop count (seq_at (form_at h) height l)
  pub short : length (drop within (seq_at (form_at h) below child)) + length (seq_at (form_at h) below next) ≤ length (seq_at (form_at h) height l)
  pub close : i + 1 + 1 < length (links_at h l) → IsThick (form_at w) below next
  pub thick : IsThick (form_at h) height l → IsThick (form_at w) below next × All (IsThick (form_at h) below) (drop (i + 1 + 1) (links_at h l))

pub is-next : {T : Type 0} (h w : Heap T) (height below l i within count child next : ℕ) (links : List ℕ) → height ≡ suc below → Stays (λ x. IsSome (row_at h x)) h w → IsOver h below l → i < length (links_at h l) → length (flat_map (seq_at (form_at h) below) (take i (links_at h l))) + within ≡ count
    → within < length (seq_at (form_at h) below (get_or (links_at h l) i 0)) → child ≡ get_or (links_at h l) i 0 → i + 1 < length (links_at h l) → links ≡ links_at w l → next ≡ get_or links (i + 1) next → IsNext h w height below l i within count child next
is-next h w height below l i within count child next links e s o lt is inside child-is more links-are found =
    let same : links_at w l ≡ links_at h l = links-stay s l o.live in
    let next-is : next ≡ get_or (links_at h l) (i + 1) 0 = at-place links (links_at h l) (i + 1) next found (links-are ∙ same) more in
    let there = child-at h below l (i + 1) next o more next-is in
    let keep : IsThick (form_at h) below next → IsThick (form_at w) below next = λ t. thick-stays s below next there.live t in
    rw e (record {
      more = more;
      place = next-is;
      well = there.well;
      levels = λ m. rows-kept s below m next there.live;
      child_thick = rw child-is (child-thick h below l i o more);
      row = row-later s below next there.live (child-row h below l next there);
      same = seq-stays s below next there.live;
      items = rw (child-is, next-is) (rest-next h below l o i within count lt is inside more);
      short = rw (child-is, next-is) (rest-short h below l o i within count lt is inside more);
      close = λ further. keep (rw next-is (child-thick h below l (i + 1) o further));
      thick = λ t. (keep (there.thick t), All-drop (IsThick (form_at h) below) (i + 1 + 1) (links_at h l) (o.thick t).1);
    })

pub joined-items : (a b c d e f : List ℕ) → a ≡ b ++ c → d ≡ e → f ≡ c ++ e → a ++ d ≡ b ++ f
joined-items a b c d e f p q r = rw (p, q, r) (append_assoc b c e)
