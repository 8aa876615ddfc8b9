-- Room was made first: an edit after that is the same edit.
use Rattle.rrb_core.proofs.CallerLemmas.{pushed-root-same}
use Rattle.rrb_core.specs.Push.{IsPushedRoot}
use Rattle.std.proofs.Common.{◌≡◌, ℕ, ◌+◌, ◌<◌, ◌≤◌, List, [], ◌∷◌, length, refl, ap, sym, ◌∙◌, arith, IsSome, ◌++◌, take, ◌-◌, Bool, subst}
use Rattle.std.specs.Prelude.{option_map, nat_lt, nat_le, ◌==◌, if◌then◌else◌, slice_index, ◌&&◌, slice_set}
use Rattle.node_heap.proofs.AloneLemmas.{alone-same, KeepsAlone-owners}
use Rattle.node_heap.proofs.OwnedRows.{owned-same}
use Rattle.node_heap.proofs.OwnerLemmas.{EditsBy-more, EditsBy-Unchanged}
use Rattle.node_heap.proofs.Owners.{KeepsOwners-Unchanged}
use Rattle.node_heap.specs.Calls.{MakesWhatCame, Unchanged}
use Rattle.node_heap.specs.Forms.{links_of, links_in, form_of}
use Rattle.node_heap.specs.Heap.{Heap, row_at, form_at, live_count, owners_at}
use Rattle.node_heap.specs.Links.{count}
use Rattle.node_heap.specs.declared.owner.Owner.{Owner}
use Rattle.node_heap.specs.declared.owner.Owner.TheVariants.{Hold as by_hold}
use Rattle.node_heap.specs.Owner.{owned, written, WritesOnly, alone, with_root}
use Rattle.rrb_core.proofs.BuildLemmas.{unchanged-good, same-height}
use Rattle.rrb_core.proofs.ClosedRows.{Stays}
use Rattle.rrb_core.proofs.Stays.{well-live, live-stays-by}
use Rattle.rrb_core.specs.Seq.{seq, height_in}
use Rattle.rrb_core.specs.Vector.{elements, height_at, IsGoodVector, IsVectorOf}
use Rattle.edit_vec.proofs.PathLemmas.{spine-stays, rows_over-stays}
use Rattle.edit_vec.specs.Edit.{PushesElement, PopsElement, SetsElement}
use Rattle.edit_vec.specs.Path.{rows_over, keep_or_stop, up_to_last, right_spine, push_path, pop_spine, pop_path, spine_at, set_path}

up-same : (fits fits' : ℕ → Bool) → ((k : ℕ) → fits k ≡ fits' k) → (xs : List ℕ) → up_to_last fits xs ≡ up_to_last fits' xs
up-same fits fits' same [] = refl
up-same fits fits' same (x ∷ xs) = ap (keep_or_stop x (fits x)) (up-same fits fits' same xs) ∙ ap (λ (b : Bool). keep_or_stop x b (up_to_last fits' xs)) (same x)

module _ {T : Type 0} {first old : Heap T} (u : Unchanged first old) where
  owners : (k : ℕ) → owners_at old k ≡ owners_at first k
  owners = KeepsOwners-Unchanged first old u

  stays : Stays (λ l. IsSome (row_at first l)) first old
  stays = live-stays-by first old u.rows u.graph

  live-root : (root : ℕ) → IsGoodVector first root → IsSome (row_at first root)
  live-root root good = well-live first (height_at first root) root good.shape.well

  -- what the owner owns is the root of the same vector
  pub vector-room : (owner : Owner) → IsGoodVector first (owned first owner) → IsVectorOf old (owned old owner) (elements first (owned first owner))
  vector-room owner good = rw (owned-same u owner) (unchanged-good (owned first owner) u good)

  pub height-room : (owner : Owner) → height_at old (owned old owner) ≡ height_at first (owned first owner)
  height-room owner = ap (height_at old) (owned-same u owner) ∙ same-height first old (owned first owner) u.rows

  -- the paths of edits
  spine-room : (root : ℕ) → IsGoodVector first root → right_spine (form_at old) root ≡ right_spine (form_at first) root
  spine-room root good =
      ap (λ (n : ℕ). spine_at (form_at old) n root) (same-height first old root u.rows)
      ∙ spine-stays stays (height_at first root) root (live-root root good) good.shape.well

  links-room : (k : ℕ) → length (links_in (form_at old) k) ≡ length (links_in (form_at first) k)
  links-room k = ap (λ r. length (links_of (option_map form_of r))) (u.rows k)

  push-path-room : (root : ℕ) → IsGoodVector first root → push_path (form_at old) root ≡ push_path (form_at first) root
  push-path-room root good =
      up-same (λ k. nat_lt (length (links_in (form_at old) k)) 32) (λ k. nat_lt (length (links_in (form_at first) k)) 32) (λ k. ap (λ (n : ℕ). nat_lt n 32) (links-room k)) (right_spine (form_at old) root)
      ∙ ap (up_to_last (λ k. nat_lt (length (links_in (form_at first) k)) 32)) (spine-room root good)

  pop-spine-room : (root : ℕ) → IsGoodVector first root → pop_spine (form_at old) root ≡ pop_spine (form_at first) root
  pop-spine-room root good =
      up-same (λ k. nat_le 2 (length (links_in (form_at old) k))) (λ k. nat_le 2 (length (links_in (form_at first) k))) (λ k. ap (nat_le 2) (links-room k)) (right_spine (form_at old) root)
      ∙ ap (up_to_last (λ k. nat_le 2 (length (links_in (form_at first) k)))) (spine-room root good)

  abbrev path-of : ℕ → ℕ → ℕ → ℕ → List ℕ → List ℕ
  path-of root size height width rows = if size == 1 then root ∷ [] else if nat_le 1 height && (width == 2) && (length rows == 1) then [] else rows

  pop-path-room : (root : ℕ) → IsGoodVector first root → pop_path (form_at old) root ≡ pop_path (form_at first) root
  pop-path-room root good =
      let F = form_at old in
      let G = form_at first in
      let size : length (seq F root) ≡ length (seq G root) = ap length (unchanged-good root u good).1 in
      ap (λ (n : ℕ). path-of root n (height_in F root) (length (links_in F root)) (pop_spine F root)) size
      ∙ ap (λ (n : ℕ). path-of root (length (seq G root)) n (length (links_in F root)) (pop_spine F root)) (same-height first old root u.rows)
      ∙ ap (λ (n : ℕ). path-of root (length (seq G root)) (height_in G root) n (pop_spine F root)) (links-room root)
      ∙ ap (path-of root (length (seq G root)) (height_in G root) (length (links_in G root))) (pop-spine-room root good)

  set-path-room : (root index : ℕ) → IsGoodVector first root → index < length (elements first root) → set_path (form_at old) root index ≡ set_path (form_at first) root index
  set-path-room root index good inside =
      ap (λ (n : ℕ). rows_over (form_at old) n root index) (same-height first old root u.rows)
      ∙ rows_over-stays stays (height_at first root) root index (live-root root good) inside

  -- of a path as many rows are alone, and an edit writes those
  off-room : (m : ℕ) {path path' : List ℕ} → path ≡ path' → count m (written first path') ≡ 0 → count m (written old path) ≡ 0
  off-room m {path} {path'} same off = rw same (ap (λ (k : ℕ). count m (take k path')) (alone-same old first path' owners) ∙ off)

  others-room : (owner : Owner) (new : Heap T) (r : ℕ) {path path' : List ℕ} → path ≡ path' → WritesOnly owner old new r path → WritesOnly owner first new r path'
  others-room owner new r same others m live off = others m (rw (u.rows m) live) (off-room m same off) ∙ ap (with_root owner r m) (u.rows m)

  makes-room : {new : Heap T} → MakesWhatCame old new → MakesWhatCame first new
  makes-room makes = record {
    stays = λ l some. makes.stays l (rw (u.rows l) some);
    live = omega (arith, makes.live, u.live);
    made = omega (arith, makes.made, makes.live, u.made, u.live);
  }

  pub pushes-room : {owner : Owner} {new : Heap T} {r e : ℕ} → IsGoodVector first (owned first owner) → PushesElement owner old new r e → PushesElement owner first new r e
  pushes-room {owner} {new} {r} {e} good p =
      let root : ℕ = owned first owner in
      let path : push_path (form_at old) (owned old owner) ≡ push_path (form_at first) root = ap (push_path (form_at old)) (owned-same u owner) ∙ push-path-room root good in
      record {
        vector = (p.vector.0, p.vector.1 ∙ ap (λ (xs : List ℕ). xs ++ e ∷ []) (vector-room owner good).1);
        rule = subst (λ l. IsPushedRoot (form_at first) (form_at new) e l r) (owned-same u owner) (pushed-root-same (λ k. ap (option_map form_of) (sym (u.rows k))) p.rule);
        edits = EditsBy-more 0 (height_at first root + 2) (EditsBy-Unchanged first old u owner p.edits) (omega arith) (omega (arith, height-room owner));
        path = KeepsAlone-owners owners (rw path at p.path);
        gains =
            let later : live_count new + alone old (push_path (form_at first) root) ≤ live_count old + length (right_spine (form_at new) r) = rw path at p.gains in
            omega (arith, later, u.live, alone-same old first (push_path (form_at first) root) owners);
        others = others-room owner new r path p.others;
        makes = makes-room p.makes;
      }

  pub sets-room : {owner : Owner} {new : Heap T} {r index e given : ℕ} → IsGoodVector first (owned first owner) → index < length (elements first (owned first owner)) → SetsElement owner old new r index e given → SetsElement owner first new r index e given
  sets-room {owner} {new} {r} {index} {e} {given} good inside s =
      let root : ℕ = owned first owner in
      let items = (vector-room owner good).1 in
      let path : set_path (form_at old) (owned old owner) index ≡ set_path (form_at first) root index = ap (λ (l : ℕ). set_path (form_at old) l index) (owned-same u owner) ∙ set-path-room root index good inside in
      record {
        vector = (s.vector.0, s.vector.1 ∙ ap (λ (xs : List ℕ). slice_set xs index e) items);
        back = s.back ∙ ap (λ (xs : List ℕ). slice_index xs index) items;
        edits = EditsBy-more 0 (height_at first root + 1) (EditsBy-Unchanged first old u owner s.edits) (omega arith) (omega (arith, height-room owner));
        path = KeepsAlone-owners owners (rw path at s.path);
        gains =
            let later : live_count new + alone old (set_path (form_at first) root index) ≡ live_count old + length (set_path (form_at first) root index) = rw path at s.gains in
            omega (arith, later, u.live, alone-same old first (set_path (form_at first) root index) owners);
        others = others-room owner new r path s.others;
        makes = makes-room s.makes;
      }

  pub pops-room : {new : Heap T} {root r given : ℕ} → IsGoodVector first root → PopsElement (by_hold root) old new r given → PopsElement (by_hold root) first new r given
  pops-room {new} {root} {r} {given} good p =
      let items = (unchanged-good root u good).1 in
      let path : pop_path (form_at old) root ≡ pop_path (form_at first) root = pop-path-room root good in
      record {
        vector = (p.vector.0, p.vector.1 ∙ ap (λ (xs : List ℕ). take (length xs - 1) xs) items);
        back = p.back ∙ ap (λ (xs : List ℕ). slice_index xs (length xs - 1)) items;
        edits = EditsBy-more 0 (height_at first root + 1) (EditsBy-Unchanged first old u (by_hold root) p.edits) (omega arith) (omega (arith, same-height first old root u.rows));
        path = KeepsAlone-owners owners (rw path at p.path);
        others = λ m live live' off. p.others m (rw (u.rows m) live) live' (off-room m path off) ∙ u.rows m;
        made =
            let later : new.made ≤ old.made + (length (pop_path (form_at first) root) - alone old (pop_path (form_at first) root)) = rw path at p.made in
            omega (arith, later, u.made, alone-same old first (pop_path (form_at first) root) owners);
      }
