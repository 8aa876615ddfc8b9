-- A push at a row with room: an inner row takes a new last child over the element alone.
use Rattle.std.proofs.Common.{◌≡◌, ◌≢◌, ℕ, suc, ◌-◌, ◌+◌, ◌<◌, ◌≤◌, List, [], ◌∷◌, ◌++◌, length, take, get_or, refl, ap, sym, subst, ◌∙◌, arith, length-append, Some, IsSome, inl, inr}
use Rattle.std.specs.Prelude.{insert}
use Rattle.std.specs.List.{All, flat_map}
use Rattle.std.proofs.lemmas.Bool.{cases_eq}
use Rattle.std.proofs.lemmas.List.{take_all, drop_all, get_or_at}
use Rattle.std.proofs.Math.Seq.{take-append_seam}
use Rattle.node_heap.specs.Links.{count, Reaches, here, below, HasLink}
use Rattle.node_heap.specs.Forms.{node, inner, links_of, links_in, head_of, is_node}
use Rattle.node_heap.specs.Heap.{Heap, row_at, form_at, links_at, holds_at, owners_at, live_count}
use Rattle.node_heap.specs.declared.row.Head.TheVariants.{Inner}
use Rattle.node_heap.specs.Calls.{Makes, Builds}
use Rattle.node_heap.specs.InPlace.{Writes, Changes}
use Rattle.node_heap.proofs.Counts.{test_same, test_other}
use Rattle.node_heap.proofs.BuildLemmas.{count-cons}
use Rattle.node_heap.proofs.GraphLemmas.{IsGraph-acyclic}
use Rattle.node_heap.proofs.EditLaws.{Changes-Builds, Gains-trans, Gains-Builds, Gains-Changes}
use Rattle.node_heap.proofs.Edited.{above_live, Reaches-back, Changes-then, Changes-beside, Changes-more, count-at}
use Rattle.node_heap.specs.Owner.{alone}
use Rattle.node_heap.proofs.AloneLemmas.{alone-yes, KeepsAlone-none, KeepsAlone-cons, written-cons}
use Rattle.rrb_core.specs.Seq.{seq_at, IsThick, IsWell}
use Rattle.rrb_core.specs.Vector.{KeepsSums, sums_at}
use Rattle.rrb_core.specs.Push.{last_in, IsPacked, into_new}
use Rattle.rrb_core.specs.Build.{IsRowOf, AreRows}
use Rattle.rrb_core.specs.Edit.{MakesRow}
use Rattle.rrb_core.proofs.ClosedRows.{Stays}
use Rattle.rrb_core.proofs.LinkCounts.{all-counted, one-held}
use Rattle.std.proofs.lemmas.List.Concat.{flat_map-append}
use Rattle.rrb_core.proofs.FillRule.{height-is}
use Rattle.rrb_core.proofs.BuildLemmas.{gained-held}
use Rattle.rrb_core.proofs.PushLemmas.{all-last, packed-thick}
use Rattle.rrb_core.proofs.Stays.{links-form, live-stays, well-live, well-stays, items-stay, all-thick-stay, rows-stay, row-stays, keeps-stay, seq-stays}
use Rattle.rrb_core.proofs.RowLists.{IsOver, over, one-row, one-items, rows-append, rows-live}
use Rattle.edit_vec.specs.Steps.{CanWrite, PushesIn}
use Rattle.edit_vec.proofs.ReachLemmas.{reach-low}
use Rattle.edit_vec.proofs.StepLemmas.{well-node}
use Rattle.edit_vec.proofs.PathLemmas.{spine-below}
use Rattle.edit_vec.proofs.GrowLemmas.{row-headed, stays-under, all-under}
use Rattle.edit_vec.proofs.RowLemmas.{form-rewritten, sums-rewritten}

-- a row over the element alone was built
module _ {T : Type 0} {old mid : Heap T} {n row e child : ℕ} (can : CanWrite old (suc n) row e) (made : MakesRow old mid (e ∷ []) n child (e ∷ [])) (owners : (k : ℕ) → IsSome (row_at old k) → owners_at mid k ≡ owners_at old k) where
  abbrev ks : List ℕ
  ks = links_at old row

  under : IsOver old n row
  under = over old n row can.well can.sums

  keeps : Stays (λ l. IsSome (row_at old l)) old mid
  keeps = live-stays can.graph made.builds.extends

  pub row-live : IsSome (row_at old row)
  row-live = well-live old (suc n) row can.well

  row-kept : row_at mid row ≡ row_at old row
  row-kept = keeps.kept row row-live

  pub sole-built : owners_at mid row ≡ 1
  sole-built = owners row row-live ∙ can.sole

  well-built : IsWell (form_at mid) (suc n) row
  well-built = well-stays keeps (suc n) row row-live can.well

  pub node-built : is_node (row_at mid row) ≡ 1
  node-built = well-node mid (suc n) row well-built

  pub links-built : links_at mid row ≡ ks
  links-built = ap links_of row-kept

  pub held-built : 1 ≤ holds_at mid child
  held-built = gained-held made.builds (one-held e 0 (holds_at old) can.held)

  off-element : ¬ Reaches (links_at mid) e row
  off-element way = can.apart (Reaches-back old mid e row (made.builds.extends.kept e (can.graph.held e can.held)) way)

  pub apart-built : ¬ Reaches (links_at mid) child row
  apart-built way =
      let off : (x : ℕ) → 0 < count x (seq_at (form_at mid) n child) → ¬ Reaches (links_at mid) x row = λ x some up.
      let one : 0 < count x (e ∷ []) = rw made.row.items at some in
      elim (cases_eq x e) as (λ _. ⊥) [
        | inl same ↦ off-element (subst (λ j. Reaches (links_at mid) j row) same up)
        | inr other ↦ absurd (omega (arith, one, count-cons x e [], test_other x e other))
      ] in
      absurd (omega (arith, reach-low mid n child row made.row.well way off, height-is (form_at mid) (suc n) row well-built))

  -- the row takes it as its last child
  module _ {new : Heap T} {place : ℕ} (packed : IsPacked (form_at old) n (last_in (form_at old) row)) (room : length ks < 32) (is : place ≡ length ks) (writes : Writes mid new row (head_of (row_at mid row)) (insert (links_at mid row) place child)) (change : Changes row mid new (child ∷ []) [] 0 0) (makes : Makes mid new 0 0) where
    pub links-placed : links_at new row ≡ ks ++ child ∷ []
    links-placed = writes.new_links ∙ rw (links-built, take_all place ks (omega (arith, is)), drop_all place ks (omega (arith, is))) refl

    apart-stays : Stays (λ m. ¬ Reaches (links_at mid) m row) mid new
    apart-stays = record {
      closed = λ l off. all-counted (λ m. ¬ Reaches (links_at mid) m row) (links_at mid l) (λ j some up. off (below l j row some up));
      kept = λ m off. writes.others m (λ same. off (subst (λ j. Reaches (links_at mid) j row) (sym same) (here row)));
    }

    off-each : All (λ m. ¬ Reaches (links_at mid) m row) ks
    off-each = all-counted (λ m. ¬ Reaches (links_at mid) m row) ks (λ j some. IsGraph-acyclic mid made.builds.graph row j (rw links-built some))

    live-each : All (λ m. IsSome (row_at old m)) ks
    live-each = rows-live old n ks under.rows

    thick-each : All (IsThick (form_at old) n) ks
    thick-each =
        let last : IsPacked (form_at old) n (get_or ks (length ks - 1) 0) = rw (links-form old row) at packed in
        all-last (IsThick (form_at old) n) ks under.rows.thick (packed-thick (form_at old) n (get_or ks (length ks - 1) 0) (under.rows.well (length ks - 1) 0 (omega (arith, under.some))) last)

    child-new : IsRowOf new n child (e ∷ [])
    child-new = row-stays apart-stays n child (e ∷ []) apart-built made.row

    pub rows-placed : AreRows new n (links_at new row)
    rows-placed =
        rw links-placed (rows-append new n ks (child ∷ [])
        (rows-stay apart-stays n ks off-each (rows-stay keeps n ks live-each under.rows))
        (one-row new n child (e ∷ []) child-new (omega arith))
        (λ _. all-thick-stay apart-stays n ks off-each (all-thick-stay keeps n ks live-each thick-each)))

    pub items-placed : flat_map (seq_at (form_at new) n) (links_at new row) ≡ seq_at (form_at old) (suc n) row ++ e ∷ []
    items-placed =
        let front : flat_map (seq_at (form_at new) n) ks ≡ seq_at (form_at old) (suc n) row = items-stay apart-stays n ks off-each ∙ items-stay keeps n ks live-each ∙ sym under.items in
        rw (links-placed, flat_map-append (seq_at (form_at new) n) ks (child ∷ []), front, one-items new n child (e ∷ []) child-new) refl

    pub few-placed : length (links_at new row) ≤ 32
    few-placed = omega (arith, ap length links-placed, length-append ks (child ∷ []), room)

    pub some-placed : 1 ≤ length (links_at new row)
    some-placed = omega (arith, ap length links-placed, length-append ks (child ∷ []))

    pub two-placed : 2 ≤ length (links_at new row)
    two-placed = omega (arith, ap length links-placed, length-append ks (child ∷ []), under.some)

    heads : head_of (row_at new row) ≡ head_of (row_at old row)
    heads = writes.new_head ∙ ap head_of row-kept

    pub inner-placed : form_at new row ≡ Some (node (inner (suc n)) (links_at new row))
    unfolding IsWell
    inner-placed = form-rewritten (row_at old row) (row_at new row) (inner (suc n)) (links_in (form_at old) row) heads can.well.kind

    -- the other children, of which it has the sums still
    front-placed : take (length (links_at new row) - 1) (links_at new row) ≡ ks
    front-placed =
        let size : length (links_at new row) - 1 ≡ length ks = omega (arith, ap length links-placed, length-append ks (child ∷ [])) in
        rw (size, links-placed) (take-append_seam ks (child ∷ []))

    pub sums-placed : KeepsSums (form_at new) n (take (length (links_at new row) - 1) (links_at new row)) (sums_at new row)
    sums-placed =
        rw (front-placed, sums-rewritten (row_at old row) (row_at new row) heads)
        (keeps-stay apart-stays n ks (sums_at old row) off-each (keeps-stay keeps n ks (sums_at old row) live-each under.sums))

    pub one-placed : length (seq_at (form_at new) n (last_in (form_at new) row)) ≡ 1
    one-placed =
        let all : links_in (form_at new) row ≡ ks ++ child ∷ [] = links-form new row ∙ links-placed in
        let size : length (ks ++ child ∷ []) - 1 ≡ length ks = omega (arith, length-append ks (child ∷ [])) in
        let last : last_in (form_at new) row ≡ child = rw (all, size) (get_or_at ks child [] 0 (length ks) refl) in
        rw (last, child-new.items) refl

    -- its head is written then
    pub pushes-beside : {last : Heap T} {height : ℕ} {ss : List ℕ} → height ≡ suc n → KeepsSums (form_at new) n (links_at new row) ss → Writes new last row (Some (Inner height ss)) (links_at new row) → Changes row new last [] [] 0 0 → Makes new last 0 0 → PushesIn old last (suc n) (suc n) row e
    pushes-beside {last} {height} {ss} tall sums writes' change' makes' =
        let graph = change.trades.graph in
        let one : suc n - suc n + 1 ≡ 1 = omega arith in
        let built : Changes row old mid (e ∷ []) (child ∷ []) 0 (n + 1) = Changes-Builds row can.graph (λ k up sole. owners k (above_live old k row up row-live) ∙ sole) made.builds in
        record {
          row = row-headed graph writes' tall rows-placed some-placed few-placed (keeps-stay (stays-under graph writes') n (links_at new row) ss (all-under graph writes') sums) items-placed;
          rule =
              let end : get_or (links_at new row) (length ks) 0 ≡ child = rw links-placed (get_or_at ks child [] 0 (length ks) refl) in
              let has : HasLink (links_at new) row child = count-at (links_at new row) (length ks) child (omega (arith, ap length links-placed, length-append ks (child ∷ []))) end in
              into_new n row row child packed (seq-stays (stays-under graph writes') n child (child, has, here child) ∙ child-new.items)
              (record { room = rw (links-form old row) room; links = links-form last row ∙ writes'.new_links ∙ links-placed ∙ ap (λ (ls : List ℕ). ls ++ child ∷ []) (sym (links-form old row)) });
          links = omega (arith, ap length writes'.new_links, ap length links-placed, length-append ks (child ∷ []));
          changes = Changes-more 0 (suc n) (Changes-beside (Changes-then built change) change') (omega arith) (omega arith);
          gains = Gains-trans (Gains-Builds made.builds) (Gains-trans (Gains-Changes change (λ k other live. writes.others k other) makes) (Gains-Changes change' (λ k other live. writes'.others k other) makes'));
          path = rw (one, spine-below (form_at old) (suc n) row, spine-below (form_at last) (suc n) row) (KeepsAlone-cons old row [] [] can.sole (KeepsAlone-none old));
          came =
              let built : Builds old mid (e ∷ []) (child ∷ []) 0 (n + 1) = made.builds in
              let single : live_count last + alone old (row ∷ []) ≤ live_count old + (suc n + 1) = omega (arith, makes'.live, makes.live, built.makes.live, built.few_cells, built.few_nodes, alone-yes old row [] can.sole) in
              rw (one, spine-below (form_at old) (suc n) row) single;
          others = λ m live off.
              let single : count m (row ∷ []) ≡ 0 = rw (one, spine-below (form_at old) (suc n) row, written-cons old row [] can.sole) at off in
              let other : m ≢ row = λ same. absurd (omega (arith, single, count-cons m row [], test_same m row same)) in
              writes'.others m other ∙ writes.others m other ∙ keeps.kept m live;
        }
