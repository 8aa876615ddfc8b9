-- Rows that have as many elements as they can, and rows over given elements that are made one after the other.
use Rattle.std.proofs.Common.{◌≡◌, ℕ, suc, zero, ◌-◌, ◌+◌, ◌*◌, ◌/◌, ◌<◌, ◌≤◌, ◌^◌, List, [], ◌∷◌, ◌++◌, length, take, drop, get_or, min, refl, ap, sym, ◌∙◌, arith, length-append, length-drop, ◌⊎◌, inl, inr}
use Rattle.std.specs.List.{All, flat_map}
use Rattle.std.proofs.lemmas.List.{take_all, length-take-le}
use Rattle.std.proofs.Math.Seq.{take-add}
use Rattle.std.proofs.lemmas.List.Concat.{length-flat_map, flat_map-append}
use Rattle.std.proofs.lemmas.List.Sums.{sum_by-le}
use Rattle.std.proofs.lemmas.List.Elements.{All-weaker}
use Rattle.std.proofs.Math.Nat.{pow-suc, le_of_mul-le-mul_right, mul-le-mul_right}
use Rattle.node_heap.specs.Links.{count}
use Rattle.node_heap.specs.Forms.{Forms, links_in}
use Rattle.node_heap.specs.Heap.{Heap, form_at, links_at, holds_at, node_count, IsGraph}
use Rattle.node_heap.specs.declared.row.TheConstants.{MOST_HEIGHT}
use Rattle.node_heap.specs.Calls.{Builds}
use Rattle.node_heap.proofs.BuildLemmas.{count-append, Builds-refl, Builds-then, Builds-beside}
use Rattle.rrb_core.specs.Seq.{seq_at, IsThick, IsWell}
use Rattle.rrb_core.specs.Vector.{IsVectorOf}
use Rattle.rrb_core.specs.Build.{IsRowOf}
use Rattle.rrb_core.specs.Filled.{MakesFilled, MakesRows}
use Rattle.rrb_core.proofs.Lists.{sum_by-full, pow-pos}
use Rattle.rrb_core.proofs.FillRule.{seq-le}
use Rattle.rrb_core.proofs.LinkCounts.{count-split}
use Rattle.rrb_core.proofs.Stays.{live-stays, links-form, items-stay, all-thick-stay, rows-stay}
use Rattle.rrb_core.proofs.RowLists.{rows-append, no-rows, one-row, one-items, rows-live, good-row}

module _ {K : Type 0} (F : Forms K) where
  most-each : (n : ℕ) (ks : List ℕ) → All (IsWell F n) ks → All (λ k. length (seq_at F n k) ≤ 32 ^ suc n) ks
  most-each n ks well = All-weaker (IsWell F n) (λ k. length (seq_at F n k) ≤ 32 ^ suc n) (λ k w. seq-le F n k w) ks well

  -- rows of height n have no more elements than as many full ones
  pub most-items : (n : ℕ) (ks : List ℕ) → All (IsWell F n) ks → length (flat_map (seq_at F n) ks) ≤ length ks * 32 ^ suc n
  most-items n ks well = omega (arith, length-flat_map (seq_at F n) ks, sum_by-le (λ k. length (seq_at F n k)) (32 ^ suc n) ks (most-each n ks well))

  -- where they have as many, each is full
  pub each-full : (n : ℕ) (ks : List ℕ) → All (IsWell F n) ks → length (flat_map (seq_at F n) ks) ≡ length ks * 32 ^ suc n → All (λ k. length (seq_at F n k) ≡ 32 ^ suc n) ks
  each-full n ks well all = sum_by-full (λ k. length (seq_at F n k)) (32 ^ suc n) ks (most-each n ks well) (sym (length-flat_map (seq_at F n) ks) ∙ all)

  -- so many rows are full, where their elements fill 32 and they are no more
  pub count-full : (n : ℕ) (ks : List ℕ) → All (IsWell F n) ks → length ks ≤ 32 → length (flat_map (seq_at F n) ks) ≡ 32 ^ suc (suc n) → length ks ≡ 32
  count-full n ks well few all =
      let most : 32 * 32 ^ suc n ≤ length ks * 32 ^ suc n = omega (arith, most-items n ks well, all, pow-suc 32 (suc n)) in
      omega (arith, few, le_of_mul-le-mul_right {m = 32} {n = length ks} {k = 32 ^ suc n} most (pow-pos (suc n)))

  -- a full row is thick
  pub full-thick : (n l : ℕ) → IsWell F n l → length (seq_at F n l) ≡ 32 ^ suc n → IsThick F n l
  unfolding IsWell seq_at IsThick
  full-thick zero l w full = omega (arith, full)
  full-thick (suc n) l w full =
      let ks : List ℕ = links_in F l in
      let count : length ks ≡ 32 = count-full n ks w.children w.most full in
      let all : length (flat_map (seq_at F n) ks) ≡ length ks * 32 ^ suc n = rw count (omega (arith, full, pow-suc 32 (suc n))) in
      let each = each-full n ks w.children all in
      (omega (arith, count), λ k d b. full-thick n (get_or ks k d) (w.children k d b) (each k d b))

  -- a row with more elements than one child can have has two children
  pub two-links : (n l : ℕ) → IsWell F (suc n) l → 32 ^ suc n < length (seq_at F (suc n) l) → 2 ≤ length (links_in F l)
  unfolding IsWell seq_at
  two-links n l w more = two (length (links_in F l)) (most-items n (links_in F l) w.children)
    where
      two : (c : ℕ) → length (flat_map (seq_at F n) (links_in F l)) ≤ c * 32 ^ suc n → 2 ≤ c
      two zero few = absurd (omega (arith, few, more))
      two (suc zero) few = absurd (omega (arith, few, more))
      two (suc (suc c)) few = omega arith

-- a part of a list behind its front
pub take-part : (xs : List ℕ) (i j : ℕ) → i ≤ j → take j xs ≡ take i xs ++ take (j - i) (drop i xs)
take-part xs i j le = let up : i + (j - i) ≡ j = omega arith in rw up at (take-add i (j - i) xs)

-- the same rows came, and no more than so many
pub within : {T : Type 0} {old new : Heap T} {xs us : List ℕ} {c n : ℕ} (m : ℕ) → Builds old new xs us c n → node_count new ≤ node_count old + m → Builds old new xs us c m
within m b few = record { extends = b.extends; graph = b.graph; holds = b.holds; total = b.total; cells = b.cells; nodes = b.nodes; few_cells = b.few_cells; few_nodes = omega (arith, few, b.makes.nodes); makes = b.makes }

-- a leaf over elements
pub filled-leaf : {T : Type 0} {old new : Heap T} {links : List ℕ} {k : ℕ} → IsRowOf new 0 k links → Builds old new links (k ∷ []) 0 1 → MakesFilled old new links 0 k
filled-leaf {links = links} row b =
    record { row = row; builds = within (length links / 16 + (0 + 1)) b (omega (arith, b.makes.nodes, b.few_nodes)); full = λ e. omega (arith, b.makes.nodes, b.few_nodes, e) }

-- no row yet
pub filled-none : {T : Type 0} (h : Heap T) (links : List ℕ) (n : ℕ) → IsGraph h → MakesRows h h links n 0 []
filled-none h links n graph =
    record {
      rows = no-rows h n;
      items = refl;
      even = λ lt. omega arith;
      some = omega arith;
      most = omega arith;
      builds = Builds-refl h [] 0 (0 / 16 + (n + 1)) graph;
      full = λ e. omega arith;
    }

-- the number of full rows made so far, where elements are left
pub rows-left : (count m done size : ℕ) → done ≡ count * m → done < size → size ≤ 32 * m → count < 32
rows-left count m done size is lt room = below (cases count)
  where
    cases : (c : ℕ) → (c < 32) ⊎ (32 ≤ c)
    cases c = grind arith

    below : (count < 32) ⊎ (32 ≤ count) → count < 32
    below (inl few) = few
    below (inr many) = absurd (omega (arith, is, lt, room, mul-le-mul_right m many))

-- the next part of `size` elements begins at `done` and ends at `end`: it is full, or the last
pub record IsNext (size full done end : ℕ) : Type 0 where
  pub more : done < end
  pub inside : end ≤ size
  pub few : end ≤ done + full
  pub next : end < size → end ≡ done + full

pub next-end : (size full done end : ℕ) → done < size → 1 ≤ full → end ≡ min size (done + full) → IsNext size full done end
next-end size full done end lt some is = record { more = omega (arith, lt, some, is); inside = omega (arith, is); few = omega (arith, is); next = λ left. omega (arith, is, left) }

-- one row more
module _ {T : Type 0} {old mid new : Heap T} {links ks : List ℕ} {n done end k : ℕ} (made : MakesRows old mid links n done ks) (lt : done < length links) (part-is : IsNext (length links) (32 ^ suc n) done end) (row : MakesFilled mid new (take (end - done) (drop done links)) n k) where
  -- all rows so far are thick
  thick-so-far : All (IsThick (form_at mid) n) ks
  thick-so-far =
      let all : length (flat_map (seq_at (form_at mid) n) ks) ≡ length ks * 32 ^ suc n = ap length made.items ∙ length-take-le done links (omega (arith, lt)) ∙ made.even lt in
      let each = each-full (form_at mid) n ks made.rows.well all in
      λ i d b. full-thick (form_at mid) n (get_or ks i d) (made.rows.well i d b) (each i d b)

  pub filled-more : length links ≤ 32 ^ suc (suc n) → MakesRows old new links n end (ks ++ k ∷ [])
  filled-more room =
      let stays = live-stays made.builds.graph row.builds.extends in
      let live = rows-live mid n ks made.rows in
      let part : List ℕ = take (end - done) (drop done links) in
      let more : done < end = part-is.more in
      let size : length part ≡ end - done = length-take-le (end - done) (drop done links) (omega (arith, length-drop done links, part-is.inside)) in
      let count : length (ks ++ k ∷ []) ≡ length ks + 1 = omega (arith, length-append ks (k ∷ [])) in
      let times : length (ks ++ k ∷ []) * 32 ^ suc n ≡ length ks * 32 ^ suc n + 32 ^ suc n = rw count (omega arith) in
      let even = made.even lt in
      let front : take end links ≡ take done links ++ part = take-part links done end (omega (arith, more)) in
      let first : (node_count mid + length ks) * 16 ≤ node_count old * 16 + done = made.full even in
      let second : node_count new ≤ node_count mid + (length part / 16 + (n + 1)) = omega (arith, row.builds.makes.nodes, row.builds.few_nodes) in
      let both : Builds old new (take done links ++ part) (ks ++ k ∷ []) 0 (done / 16 + (n + 1) + (length part / 16 + (n + 1))) = Builds-beside made.builds row.builds in
      record {
        rows = rows-append new n ks (k ∷ []) (rows-stay stays n ks live made.rows) (one-row new n k part row.row (omega (arith, size, more))) (λ _. all-thick-stay stays n ks live thick-so-far);
        items = flat_map-append (seq_at (form_at new) n) ks (k ∷ []) ∙ rw (items-stay stays n ks live, made.items, one-items new n k part row.row, front) refl;
        even = λ left. omega (arith, times, even, part-is.next left);
        some = omega (arith, count, made.some, more);
        most = omega (arith, count, rows-left (length ks) (32 ^ suc n) done (length links) even lt (omega (arith, room, pow-suc 32 (suc n))));
        builds = rw front (within (end / 16 + (n + 1)) both (omega (arith, first, second, size, more)));
        full = λ e. let whole : length part ≡ 32 ^ suc n = omega (arith, e, times, even, size, more) in omega (arith, first, row.full whole, size, more, count);
      }

-- what is held before the rows are made is held of the elements that are left
pub part-held : {T : Type 0} {old mid : Heap T} {links ks : List ℕ} {n done : ℕ} → MakesRows old mid links n done ks → ((l : ℕ) → count l links ≤ holds_at old l) → (end : ℕ) → done ≤ end → (l : ℕ) → count l (take (end - done) (drop done links)) ≤ holds_at mid l
part-held {links = links} {done = done} made held end le l =
    let part : List ℕ = take (end - done) (drop done links) in
    omega (arith, made.builds.holds l, held l, count-split l end links, count-append l (take done links) part, ap (count l) (take-part links done end le))

-- the row over rows of all elements
pub filled-over : {T : Type 0} {old mid new : Heap T} {links ks : List ℕ} {n done k : ℕ} → MakesRows old mid links n done ks → done ≡ length links → IsRowOf new (suc n) k (flat_map (seq_at (form_at mid) n) ks) → Builds mid new ks (k ∷ []) 0 1 → MakesFilled old new links (suc n) k
filled-over {old = old} {mid = mid} {new = new} {links = links} {ks = ks} {n = n} {done = done} {k = k} made is row b =
    let all : take done links ≡ links = take_all done links (omega (arith, is)) in
    let items : flat_map (seq_at (form_at mid) n) ks ≡ links = made.items ∙ all in
    let first : Builds old mid links ks 0 (done / 16 + (n + 1)) = rw all at made.builds in
    let one : node_count new ≤ node_count mid + 1 = omega (arith, b.makes.nodes, b.few_nodes) in
    let few : node_count mid ≤ node_count old + (done / 16 + (n + 1)) = omega (arith, first.makes.nodes, first.few_nodes) in
    record {
      row = rw items at row;
      builds = within (length links / 16 + (suc n + 1)) (Builds-then first b) (omega (arith, one, few, is));
      full = λ e.
          let count : length ks ≡ 32 = count-full (form_at mid) n ks made.rows.well made.most (ap length items ∙ e) in
          let even : done ≡ length ks * 32 ^ suc n = rw count (omega (arith, is, e, pow-suc 32 (suc n))) in
          omega (arith, made.full even, count, one, is);
    }

-- the root of a vector
pub filled-vector : {T : Type 0} {old new : Heap T} {links : List ℕ} {n k : ℕ} → MakesFilled old new links n k → n < MOST_HEIGHT → (1 ≤ n → 32 ^ n < length links) → length links < 2 ^ 32 → IsVectorOf new k links
filled-vector {new = new} {links = links} {n = n} {k = k} made low more short =
    good-row new n k links made.row (omega arith) (λ some. two n made.row.well some (rw (ap length made.row.items) (more some))) short
  where
    two : (n : ℕ) → IsWell (form_at new) n k → 1 ≤ n → 32 ^ n < length (seq_at (form_at new) n k) → 2 ≤ length (links_at new k)
    two zero well some more = absurd (omega arith)
    two (suc n) well some more = rw (← links-form new k) (two-links (form_at new) n k well more)
