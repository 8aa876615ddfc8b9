-- Maps and sets stay where what their roots reach is the same.
use Rattle.std.proofs.Common.{◌≡◌, ℕ, List, [], ◌∷◌, refl, sym, subst, ap, arith, ◌∙◌}
use Rattle.std.specs.Prelude.{IsSome}
use Rattle.std.specs.List.{All, AllZip}
use Rattle.std.proofs.lemmas.List.Elements.{All-nil, All-cons, All-head, All-tail, All-weaker}
use Rattle.std.specs.declared.cmp.Ordering.{Ordering}
use Rattle.node_heap.specs.Links.{count, Reaches}
use Rattle.node_heap.specs.Forms.{pair, links_of, links_in}
use Rattle.node_heap.specs.Heap.{Heap, row_at, form_at, links_at}
use Rattle.node_heap.specs.Calls.{KeepsBelow, Extends, Unchanged}
use Rattle.node_heap.proofs.Reach.{Reaches-then, Reaches-by}
use Rattle.node_heap.proofs.BuildLemmas.{count-cons, count-one}
use Rattle.node_heap.proofs.Frames.{Extends-Unchanged}
use Rattle.champ_chain.specs.Entry.{Entry}
use Rattle.champ_chain.proofs.FrameLemmas.{links-form}
use Rattle.champ_chain.proofs.CopyLemmas.{one_at-same}
use Rattle.champ_trie.proofs.StayLemmas.{has-first, canon-stays, canon-reach, canon-live, forms-below}
use Rattle.champ_kinds.specs.Root.{Root}
use Rattle.champ_kinds.specs.Binding.{Binding}
use Rattle.champ_kinds.specs.Kinds.{IsPair, HasEntries, IsMapOf, IsSetOf}
use Rattle.champ_kinds.specs.Stands.{KeepsMaps, KeepsSets}
use Rattle.champ_kinds.specs.Laws.{KeepsContainer, KeepsContainers}
use Rattle.champ_kinds.proofs.ZipLemmas.{zip-as, zip-all}

module _ {T : Type 0} (old new : Heap T) (r : Root) (keeps : KeepsBelow old new r.root) where
  module _ (cmp : T → T → Ordering) (code : T → ℕ) where
    rooted-stays : (E : List (Entry T)) → HasEntries cmp code old r E → HasEntries cmp code new r E
    rooted-stays E is = record { bits = is.bits; trie = canon-stays (form_at old) (form_at new) r.root (forms-below old new r.root keeps) cmp _ E is.trie }

    reached : (E : List (Entry T)) → HasEntries cmp code old r E → All (λ e. Reaches (links_in (form_at old)) r.root e.link) E
    reached E is = canon-reach cmp _ (form_at old) r.root E is.trie

    set-stays : (E : List (Entry T)) → IsSetOf cmp code old r E → IsSetOf cmp code new r E
    set-stays E is =
        record {
          rooted = rooted-stays E is.rooted;
          cells = λ k d in'. forms-below old new r.root keeps _ (reached E is.rooted k d in') ∙ is.cells k d in';
        }

    pair-stays : (e : Entry T) (b : Binding T) → Reaches (links_in (form_at old)) r.root e.link → IsPair (form_at old) e b → IsPair (form_at new) e b
    pair-stays e b down is =
        let same = forms-below old new r.root keeps in
        record {
          key_cell = is.key_cell;
          cell = same is.key_cell (Reaches-then (links_in (form_at old)) r.root e.link is.key_cell down (has-first (form_at old) e.link is.key_cell pair (b.value ∷ []) is.row)) ∙ is.cell;
          row = same e.link down ∙ is.row;
          key = is.key;
        }

    map-stays : (M : List (Binding T)) → IsMapOf cmp code old r M → IsMapOf cmp code new r M
    map-stays M is =
        let Reached = λ (e : Entry T). Reaches (links_in (form_at old)) r.root e.link in
        record {
          entries = is.entries;
          rooted = rooted-stays is.entries is.rooted;
          pairs = zip-as (λ e b. Reached e × IsPair (form_at old) e b) (IsPair (form_at new)) (λ e b is. pair-stays e b is.0 is.1) is.entries M (zip-all Reached (IsPair (form_at old)) is.entries M (reached is.entries is.rooted) is.pairs);
        }

  pub container-stays : KeepsContainer old new r
  container-stays = record { map = map-stays; set = set-stays }

module _ {T : Type 0} (cmp : T → T → Ordering) (code : T → ℕ) (h : Heap T) (r : Root) where
  entry-reached : (E : List (Entry T)) → HasEntries cmp code h r E → All (λ e. Reaches (links_at h) r.root e.link) E
  entry-reached E is =
      All-weaker (λ e. Reaches (links_in (form_at h)) r.root e.link) (λ e. Reaches (links_at h) r.root e.link)
      (λ e down. Reaches-by (links_in (form_at h)) (links_at h) (λ l. sym (links-form h l)) r.root e.link down) E (canon-reach cmp _ (form_at h) r.root E is.trie)

  value-reached : (e : Entry T) (b : Binding T) → Reaches (links_at h) r.root e.link → IsPair (form_at h) e b → Reaches (links_at h) r.root b.value
  value-reached e b down is =
      let links : count b.value (links_at h e.link) ≡ count b.value (is.key_cell ∷ b.value ∷ []) = ap (count b.value) (sym (links-form h e.link) ∙ ap links_of is.row) in
      Reaches-then (links_at h) r.root e.link b.value down (omega (arith, links, count-cons b.value is.key_cell (b.value ∷ []), count-one b.value b.value, one_at-same b.value))

  values-reached : (E : List (Entry T)) (M : List (Binding T)) → All (λ e. Reaches (links_at h) r.root e.link) E → AllZip (IsPair (form_at h)) E M → All (λ b. Reaches (links_at h) r.root b.value) M
  values-reached [] [] down pairs = All-nil (λ b. Reaches (links_at h) r.root b.value)
  values-reached [] (b ∷ bs) down pairs = absurd pairs
  values-reached (e ∷ es) [] down pairs = absurd pairs
  values-reached (e ∷ es) (b ∷ bs) down pairs =
      let Down = λ (d : Entry T). Reaches (links_at h) r.root d.link in
      All-cons (λ c. Reaches (links_at h) r.root c.value) b bs (value-reached e b (All-head Down e es down) pairs.0) (values-reached es bs (All-tail Down e es down) pairs.1)

  -- what a map's root reaches, and what a set's does
  pub map-reaches : (M : List (Binding T)) → IsMapOf cmp code h r M → All (λ b. Reaches (links_at h) r.root b.value) M
  map-reaches M is = values-reached is.entries M (entry-reached is.entries is.rooted) is.pairs

  pub set-reaches : (E : List (Entry T)) → IsSetOf cmp code h r E → All (λ e. Reaches (links_at h) r.root e.link) E
  set-reaches E is = entry-reached E is.rooted

module _ {T : Type 0} where
  -- the root of a map is there, and that of a set
  pub map-live : {cmp : T → T → Ordering} {code : T → ℕ} {M : List (Binding T)} (h : Heap T) (r : Root) (l : ℕ) → l ≡ r.root → IsMapOf cmp code h r M → IsSome (row_at h l)
  map-live h r l at is = subst (λ (k : ℕ). IsSome (row_at h k)) (sym at) (canon-live _ _ h r.root is.entries is.rooted.trie)

  pub set-live : {cmp : T → T → Ordering} {code : T → ℕ} {E : List (Entry T)} (h : Heap T) (r : Root) (l : ℕ) → l ≡ r.root → IsSetOf cmp code h r E → IsSome (row_at h l)
  set-live {E = E} h r l at is = subst (λ (k : ℕ). IsSome (row_at h k)) (sym at) (canon-live _ _ h r.root E is.rooted.trie)

  -- where every row stays, each map and each set stays
  pub containers-extended : (old new : Heap T) → Extends old new → KeepsContainers old new
  containers-extended old new more r = record {
    map = λ cmp code M is. (container-stays old new r (more.kept r.root (map-live old r r.root refl is))).map cmp code M is;
    set = λ cmp code E is. (container-stays old new r (more.kept r.root (set-live old r r.root refl is))).set cmp code E is;
  }

  -- where every row stays, a root has the entries that it had
  pub entries-extended : {cmp : T → T → Ordering} {code : T → ℕ} {r : Root} {E : List (Entry T)} (old new : Heap T) → Extends old new → HasEntries cmp code old r E → HasEntries cmp code new r E
  entries-extended {cmp} {code} {r} {E} old new more is = rooted-stays old new r (more.kept r.root (canon-live cmp _ old r.root E is.trie)) cmp code E is

  -- what was a map is one, and what was a set
  pub maps-kept : {old new : Heap T} (cmp : T → T → Ordering) (code : T → ℕ) → KeepsContainers old new → KeepsMaps cmp code old new
  maps-kept cmp code keeps r is = (is.0, (keeps r).map cmp code is.0 is.1)

  pub sets-kept : {old new : Heap T} (cmp : T → T → Ordering) (code : T → ℕ) → KeepsContainers old new → KeepsSets cmp code old new
  sets-kept cmp code keeps r is = (is.0, (keeps r).set cmp code is.0 is.1)

  pub maps-stay : {old new : Heap T} (cmp : T → T → Ordering) (code : T → ℕ) → Extends old new → KeepsMaps cmp code old new
  maps-stay {old = old} {new = new} cmp code more = maps-kept cmp code (containers-extended old new more)

  pub sets-stay : {old new : Heap T} (cmp : T → T → Ordering) (code : T → ℕ) → Extends old new → KeepsSets cmp code old new
  sets-stay {old = old} {new = new} cmp code more = sets-kept cmp code (containers-extended old new more)

  pub containers-unchanged : (old new : Heap T) → Unchanged old new → KeepsContainers old new
  containers-unchanged old new same = containers-extended old new (Extends-Unchanged same)

  -- a map is that of its root and bits, wherever they stand
  pub map-seen : {cmp : T → T → Ordering} {code : T → ℕ} {h : Heap T} {r s : Root} {M : List (Binding T)} → s ≡ r → IsMapOf cmp code h r M → IsMapOf cmp code h s M
  map-seen {cmp = cmp} {code = code} {h = h} {M = M} same is = subst (λ (q : Root). IsMapOf cmp code h q M) (sym same) is

  pub set-seen : {cmp : T → T → Ordering} {code : T → ℕ} {h : Heap T} {r s : Root} {E : List (Entry T)} → s ≡ r → IsSetOf cmp code h r E → IsSetOf cmp code h s E
  set-seen {cmp = cmp} {code = code} {h = h} {E = E} same is = subst (λ (q : Root). IsSetOf cmp code h q E) (sym same) is

  pub entries-seen : {cmp : T → T → Ordering} {code : T → ℕ} {h : Heap T} {r s : Root} {E : List (Entry T)} → s ≡ r → HasEntries cmp code h r E → HasEntries cmp code h s E
  entries-seen {cmp = cmp} {code = code} {h = h} {E = E} same is = subst (λ (q : Root). HasEntries cmp code h q E) (sym same) is
