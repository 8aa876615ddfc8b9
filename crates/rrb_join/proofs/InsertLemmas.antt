-- An element put into a child of a row.
use Rattle.std.proofs.Common.{◌≡◌, ℕ, suc, ◌-◌, ◌+◌, ◌<◌, ◌≤◌, List, [], ◌∷◌, ◌++◌, length, take, drop, get_or, ap, sym, ◌∙◌, arith, length-append, length-drop, append_assoc, IsSome}
use Rattle.std.specs.List.{All, flat_map}
use Rattle.std.proofs.lemmas.List.{length-take-le}
use Rattle.std.proofs.lemmas.List.Concat.{flat_map-append}
use Rattle.std.proofs.lemmas.List.Elements.{All-append, All-drop}
use Rattle.node_heap.specs.Heap.{Heap, row_at, form_at, links_at}
use Rattle.rrb_core.specs.Seq.{seq_at, IsThick, IsWell}
use Rattle.rrb_core.specs.Vector.{HasSums}
use Rattle.rrb_core.proofs.ClosedRows.{Stays}
use Rattle.rrb_core.specs.Build.{AreRows}
use Rattle.rrb_join.specs.Unmade.{AreThick, AreUnmade}
use Rattle.rrb_core.proofs.Lists.{items-front, items-drop}
use Rattle.rrb_core.proofs.Stays.{items-stay, all-thick-stay, rows-stay}
use Rattle.rrb_core.proofs.RowLists.{rows-take, rows-drop, take-thick, rows-around, rows-live, IsOver}
use Rattle.rrb_join.proofs.UnmadeLemmas.{has-links, rows-above, items-above, thick-above, leaf-items, leaf-are-links, leaf-are-thick}
use Rattle.rrb_join.proofs.SeamLemmas.{child-thick}

-- an element put in a child is put in the whole
pub items-insert : (f : ℕ → List ℕ) (ks : List ℕ) (i within index x : ℕ) → i < length ks → length (flat_map f (take i ks)) + within ≡ index → within ≤ length (f (get_or ks i 0))
    → (flat_map f (take i ks) ++ (take within (f (get_or ks i 0)) ++ x ∷ drop within (f (get_or ks i 0)))) ++ flat_map f (drop (i + 1) ks) ≡ take index (flat_map f ks) ++ x ∷ drop index (flat_map f ks)
items-insert f ks i within index x lt is le = rw (items-front f ks i within index lt is le, items-drop f ks i within index lt is le) (simp append_assoc)

-- links with the new element, of one row or two
pub record IsInserted {T : Type 0} (h z : Heap T) (n l index x : ℕ) (all : List ℕ) : Type 0 where
  pub unmade : AreUnmade z n all (take index (seq_at (form_at h) n l) ++ x ∷ drop index (seq_at (form_at h) n l))
  pub thick : IsThick (form_at h) n l → (16 ≤ length all) × AreThick z n all
  pub wide : length (links_at h l) ≤ length all
  pub few : length all ≤ length (links_at h l) + 1

-- the new rows of a child stand in its place
pub inserted : {T : Type 0} (h k z : Heap T) (height below l i within index x : ℕ) (made all : List ℕ) → height ≡ suc below → Stays (λ y. IsSome (row_at h y)) h z → Stays (λ y. IsSome (row_at k y)) k z → links_at k l ≡ links_at h l → IsOver h below l → i < length (links_at h l)
    → length (flat_map (seq_at (form_at h) below) (take i (links_at h l))) + within ≡ index → within ≤ length (seq_at (form_at h) below (get_or (links_at h l) i 0))
    → AreRows k below made → flat_map (seq_at (form_at k) below) made ≡ take within (seq_at (form_at h) below (get_or (links_at h l) i 0)) ++ x ∷ drop within (seq_at (form_at h) below (get_or (links_at h l) i 0))
    → (IsThick (form_at h) below (get_or (links_at h l) i 0) → All (IsThick (form_at k) below) made) → 1 ≤ length made → length made ≤ 2 → all ≡ (take i (links_at k l) ++ made) ++ drop (i + 1) (links_at k l)
    → IsInserted h z height l index x all
inserted h k z height below l i within index x made all e s s' same o lt is le rows items close some few gathered =
    let whole : all ≡ (take i (links_at h l) ++ made) ++ drop (i + 1) (links_at h l) = rw same at gathered in
    let front : AreRows h below (take i (links_at h l)) = rows-take h below i (links_at h l) o.rows (omega arith) in
    let back : AreRows h below (drop (i + 1) (links_at h l)) = rows-drop h below (i + 1) (links_at h l) o.rows in
    let front-live = rows-live h below (take i (links_at h l)) front in
    let back-live = rows-live h below (drop (i + 1) (links_at h l)) back in
    let made-live = rows-live k below made rows in
    let front-thick : All (IsThick (form_at z) below) (take i (links_at h l)) = all-thick-stay s below (take i (links_at h l)) front-live (take-thick h below i (links_at h l) o.rows lt) in
    let thick : IsThick (form_at h) below (get_or (links_at h l) i 0) → All (IsThick (form_at z) below) made = λ t. all-thick-stay s' below made made-live (close t) in
    let back-size : length (drop (i + 1) (links_at h l)) ≡ length (links_at h l) - (i + 1) = length-drop (i + 1) (links_at h l) in
    let size : length all ≡ (i + length made) + (length (links_at h l) - (i + 1)) =
    rw whole (omega (arith, length-append (take i (links_at h l) ++ made) (drop (i + 1) (links_at h l)), length-append (take i (links_at h l)) made, length-take-le i (links_at h l) (omega arith), back-size)) in
    rw e (record {
      unmade = record {
        links = rows-above z below all (rw whole (rows-around z below (take i (links_at h l)) made (drop (i + 1) (links_at h l)) (rows-stay s below (take i (links_at h l)) front-live front) front-thick
            (rows-stay s' below made made-live rows) (rows-stay s below (drop (i + 1) (links_at h l)) back-live back) (λ more. thick (child-thick h below l i o (omega (arith, back-size))))));
        items = items-above z below all ∙ rw whole (flat_map-append (seq_at (form_at z) below) (take i (links_at h l) ++ made) (drop (i + 1) (links_at h l)) ∙ rw (
          flat_map-append (seq_at (form_at z) below) (take i (links_at h l)) made,
          items-stay s below (take i (links_at h l)) front-live,
          items-stay s below (drop (i + 1) (links_at h l)) back-live,
          items-stay s' below made made-live,
          items,
          o.items,
        ) (items-insert (seq_at (form_at h) below) (links_at h l) i within index x lt is le));
        some = omega (arith, size, some);
        most = omega (arith, size, few, o.most);
      };
      thick = λ t.
          let own = o.thick t in (
            omega (arith, size, some, own.0),
            thick-above z below all (rw whole (All-append (IsThick (form_at z) below) (take i (links_at h l) ++ made) (drop (i + 1) (links_at h l)) (All-append (IsThick (form_at z) below) (take i (links_at h l)) made front-thick (thick (own.1 i 0 lt))) (all-thick-stay s below (drop (i + 1) (links_at h l)) back-live (All-drop (IsThick (form_at h) below) (i + 1) (links_at h l) own.1)))),
          );
      wide = omega (arith, size, some);
      few = omega (arith, size, few);
    })

-- the new element among those of a leaf
pub leaf-inserted : {T : Type 0} (h z : Heap T) (n l index x : ℕ) (all : List ℕ) → n ≡ 0 → IsWell (form_at h) n l → HasSums h n l → index ≤ length (seq_at (form_at h) n l)
    → all ≡ (take index (links_at h l) ++ x ∷ []) ++ drop index (links_at h l) → IsInserted h z n l index x all
leaf-inserted h z n l index x all e well sums inside is =
    let own = has-links h n l well sums in
    let items : links_at h l ≡ seq_at (form_at h) n l = sym (leaf-items h n (links_at h l) e) ∙ own.items in
    let same : length (links_at h l) ≡ length (seq_at (form_at h) n l) = ap length items in
    let size : length all ≡ length (links_at h l) + 1 =
    rw is (omega (arith, same, inside, length-append (take index (links_at h l) ++ x ∷ []) (drop index (links_at h l)), length-append (take index (links_at h l)) (x ∷ []), length-take-le index (links_at h l) (omega (arith, same, inside)), length-drop index (links_at h l))) in
    record {
      unmade = record {
        links = leaf-are-links z n all e;
        items = leaf-items z n all e ∙ is ∙ append_assoc (take index (links_at h l)) (x ∷ []) (drop index (links_at h l)) ∙ ap (λ ls. take index ls ++ x ∷ drop index ls) items;
        some = omega (arith, size);
        most = omega (arith, size, own.most);
      };
      thick = λ t. (omega (arith, size, (own.thick t).0), leaf-are-thick z n all e);
      wide = omega (arith, size);
      few = omega (arith, size);
    }

-- one element more
pub inserted-length : (xs : List ℕ) (i x : ℕ) → i ≤ length xs → length (take i xs ++ x ∷ drop i xs) ≡ length xs + 1
inserted-length xs i x le = omega (arith, length-append (take i xs) (x ∷ drop i xs), length-take-le i xs le, length-drop i xs)
