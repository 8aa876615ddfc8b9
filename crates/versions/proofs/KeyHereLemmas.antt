-- Sets that are edited in place of others.
use Rattle.std.proofs.Common.{◌≡◌, ◌≢◌, ℕ, ◌+◌, ◌<◌, ◌≤◌, Bool, true, false, List, [], ◌∷◌, map, Option, Some, None, refl, ap, sym, ◌∙◌, subst, arith}
use Rattle.std.specs.Prelude.{is_some}
use Rattle.std.specs.BTreeSet.{insert_key}
use Rattle.std.specs.Cmp.{IsTotalOrder}
use Rattle.std.specs.declared.cmp.Ordering.{Ordering}
use Rattle.elem_core.specs.declared.codes.TheConstants.{LEVELS}
use Rattle.node_heap.specs.Links.{count}
use Rattle.node_heap.specs.Heap.{Heap, holds_at, one_at}
use Rattle.node_heap.specs.declared.owner.Owner.TheVariants.{Hold as by_hold}
use Rattle.node_heap.specs.Owner.{EditsBy}
use Rattle.node_heap.proofs.CallerLemmas.{Extends-refl}
use Rattle.champ_chain.specs.Entry.{entry, link_with}
use Rattle.champ_trie.specs.declared.TheConstants.{ADD_NODES}
use Rattle.champ_kinds.specs.Root.{Root}
use Rattle.edit_trie.specs.Edit.{AddsKey, CutsEntry}
use Rattle.versions.specs.Roots.{Edits, IsKind}
use Rattle.versions.specs.Sorted.{remove_key}
use Rattle.versions.specs.Keyed.{alike, by_root, IsKeySet}
use Rattle.versions.proofs.SortLemmas.{there-sorted}
use Rattle.versions.proofs.KeyedLemmas.{has-link, set-kind, set-lacks, set-without}
use Rattle.versions.proofs.AlikeLemmas.{set-alike}
use Rattle.versions.proofs.HereLemmas.{edits-alone}

-- a link that isn't none is some
some-link : (o : Option ℕ) → o ≢ None → is_some o ≡ true
some-link None there = absurd (there refl)
some-link (Some x) there = refl

-- a root that stays is one in its own place
edits-none : {T V : Type 0} (Is : Heap T → ℕ → V → Type 0) (a d : Heap T) (l : ℕ) (q w : Root) (x : V) → q ≡ by_root l → (d ≡ a) × (w ≡ q) → Is a l x → Edits Is a d l w.root x
edits-none Is a d l q w x at same is =
    let stays : Edits Is a a l l x = record { is = is; keeps = λ k y beside was. was; holds = λ k. refl; count = refl } in
    subst (λ h. Edits Is a h l w.root x) (sym same.0) (subst (λ (p : Root). Edits Is a a l p.root x) (sym (same.1 ∙ at)) stays)

-- a root that was edited by its hold
edits-held : {T V : Type 0} {Is : Heap T → ℕ → V → Type 0} {read : Heap T → ℕ → V} → IsKind Is read → {a d : Heap T} (l : ℕ) {w c n : ℕ} (x : V) → 0 < holds_at a l → EditsBy (by_hold l) a d w [] [] c n → Is d w x → Edits Is a d l w x
edits-held kind {a} l x held did is =
    let nothing : (q : ℕ) → holds_at a q + one_at l q ≡ holds_at a q + count q [] + one_at l q = λ q. let empty : count q [] ≡ 0 = refl in omega (arith, empty) in
    edits-alone kind l {spent = []} held (Extends-refl a) nothing (omega arith) did x refl is

module _ {K : Type 0} {cmp : K → K → Ordering} (o : IsTotalOrder cmp) (code : K → ℕ) {a d : Heap K} {l : ℕ} {q w : Root} (key : K) {ks : List K} (held : 0 < holds_at a l) (is : IsKeySet cmp code a l ks) (at : q ≡ by_root l) where
  pub key-added : (done : Bool) → (done ≡ true → AddsKey cmp code (by_hold q.root) q.bits a d w.root is.entries key) → (done ≡ false → link_with cmp key is.entries ≢ None) → (done ≡ false → (d ≡ a) × (w ≡ q)) → Edits (IsKeySet cmp code) a d l w.root (insert_key cmp ks key)
  key-added true adds there same =
      let did = subst (λ (p : Root). AddsKey cmp code (by_hold p.root) p.bits a d w.root is.entries key) at (adds refl) in
      edits-held (set-kind cmp o code) l (insert_key cmp ks key) held did.edits (record { entries = entry key did.cell ∷ is.entries; set = did.set; sorted = ap (λ js. insert_key cmp js key) is.sorted })
  key-added false adds there same =
      let had : insert_key cmp ks key ≡ _ = ap (λ js. insert_key cmp js key) is.sorted ∙ there-sorted cmp o key (map (λ e. e.key) is.entries) (has-link cmp key is.entries ∙ some-link (link_with cmp key is.entries) (there refl)) in
      edits-none (IsKeySet cmp code) a d l q w (insert_key cmp ks key) at (same refl) (record { entries = is.entries; set = is.set; sorted = had })

  pub key-cut : (done : Bool) → (done ≡ true → CutsEntry cmp code (by_hold q.root) q.bits a d w.root is.entries key) → (done ≡ false → link_with cmp key is.entries ≡ None) → (done ≡ false → (d ≡ a) × (w ≡ q)) → Edits (IsKeySet cmp code) a d l w.root (remove_key cmp ks key)
  key-cut true cuts absent same =
      let did = subst (λ (p : Root). CutsEntry cmp code (by_hold p.root) p.bits a d w.root is.entries key) at (cuts refl) in
      edits-held (set-kind cmp o code) l (remove_key cmp ks key) held did.edits (set-without cmp o code a d l (by_root w.root) key ks is refl did.set)
  key-cut false cuts absent same =
      edits-none (IsKeySet cmp code) a d l q w (remove_key cmp ks key) at (same refl) (subst (IsKeySet cmp code a l) (sym (set-lacks cmp o code a l key ks is (absent refl))) is)

  -- at most these rows are made
  pub few-added : (done : Bool) → (done ≡ true → AddsKey cmp code (by_hold q.root) q.bits a d w.root is.entries key) → (done ≡ false → (d ≡ a) × (w ≡ q)) → d.made ≤ a.made + (1 + ADD_NODES + alike code key ks)
  few-added true adds same =
      let did = subst (λ (p : Root). AddsKey cmp code (by_hold p.root) p.bits a d w.root is.entries key) at (adds refl) in
      omega (arith, did.edits.trades.made, set-alike cmp o code a l key ks is)
  few-added false adds same = omega (arith, ap (λ (h : Heap K). h.made) (same refl).0)

  pub few-cut : (done : Bool) → (done ≡ true → CutsEntry cmp code (by_hold q.root) q.bits a d w.root is.entries key) → (done ≡ false → (d ≡ a) × (w ≡ q)) → d.made ≤ a.made + (LEVELS + alike code key ks)
  few-cut true cuts same =
      let did = subst (λ (p : Root). CutsEntry cmp code (by_hold p.root) p.bits a d w.root is.entries key) at (cuts refl) in
      omega (arith, did.edits.trades.made, set-alike cmp o code a l key ks is)
  few-cut false cuts same = omega (arith, ap (λ (h : Heap K). h.made) (same refl).0)
