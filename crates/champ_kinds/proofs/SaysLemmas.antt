-- What a map of cells says stays with the rows that it stands on.
use Rattle.std.proofs.Common.{◌≡◌, ◌≢◌, ℕ, List, refl, ap, sym, subst, ◌∙◌, Some}
use Rattle.std.specs.Prelude.{IsSome}
use Rattle.std.specs.List.{All}
use Rattle.std.specs.Cmp.{IsTotalOrder}
use Rattle.std.specs.declared.cmp.Ordering.{Ordering}
use Rattle.std.specs.declared.cmp.Ordering.TheVariants.{Equal}
use Rattle.node_heap.specs.Links.{Reaches, here}
use Rattle.node_heap.specs.Forms.{cell}
use Rattle.node_heap.specs.Heap.{Heap, row_at, links_at, IsGraph}
use Rattle.node_heap.specs.Calls.{Extends, KeepsBelow}
use Rattle.node_heap.proofs.Frames.{Extends-row, Reaches-live}
use Rattle.champ_kinds.specs.Root.{Root}
use Rattle.champ_kinds.specs.Binding.{Binding, bind, unbind}
use Rattle.champ_kinds.specs.Kinds.{IsMapOf}
use Rattle.champ_kinds.proofs.StayLemmas.{container-stays, map-reaches, map-live, map-seen}
use Rattle.elem_core.specs.declared.codes.TheConstants.{CODE_BITS}
use Rattle.champ_kinds.specs.Says.{by_root, Says, SaysNothing}
use Rattle.champ_kinds.proofs.FindLemmas.{value-all, bound-here, bound-other, unbound-here, unbound-other}

module _ {T : Type 0} (cmp : T → T → Ordering) (code : T → ℕ) where
  -- the cell that a map has at a key is there
  pub there : (h : Heap T) (l : ℕ) (v : T) → row_at h l ≡ Some (cell v) → IsSome (row_at h l)
  there h l v row = subst (λ r. IsSome r) (sym row) refl

  -- and stays where all below the root stays
  pub says-below : {old new : Heap T} {r : Root} {k v : T} → KeepsBelow old new r.root → Says cmp code old r k v → Says cmp code new r k v
  says-below {old} {new} {r} {k} {v} keeps says = record {
    bindings = says.bindings;
    map = (container-stays old new r keeps).map cmp code says.bindings says.map;
    link = says.link;
    bound = says.bound;
    row = keeps says.link (value-all cmp (λ l. Reaches (links_at old) r.root l) k says.link says.bindings (map-reaches cmp code old r says.bindings says.map) says.bound) ∙ says.row;
  }

  pub nothing-below : {old new : Heap T} {r : Root} {k : T} → KeepsBelow old new r.root → SaysNothing cmp code old r k → SaysNothing cmp code new r k
  nothing-below {old} {new} {r} keeps says = record {
    bindings = says.bindings;
    map = (container-stays old new r keeps).map cmp code says.bindings says.map;
    unbound = says.unbound;
  }

  -- a map that is opened says what it said, since all rows stay
  pub says-opened : {old new : Heap T} {r r' : Root} {k v : T} → Extends old new → ((M : List (Binding T)) → IsMapOf cmp code old r M → IsMapOf cmp code new r' M) → Says cmp code old r k v → Says cmp code new r' k v
  says-opened {old = old} {v = v} extends opens says = record {
    bindings = says.bindings;
    map = opens says.bindings says.map;
    link = says.link;
    bound = says.bound;
    row = Extends-row extends says.link (there old says.link v says.row) ∙ says.row;
  }

  -- and it says the same under another name
  pub says-seen : {h : Heap T} {r s : Root} {k v : T} → s ≡ r → Says cmp code h r k v → Says cmp code h s k v
  says-seen {h} {k = k} {v = v} same = subst (λ t. Says cmp code h t k v) (sym same)

  -- a map says what was put there
  pub says-put : {new : Heap T} {r s : Root} {key v : T} {link : ℕ} (M : List (Binding T)) → IsTotalOrder cmp → s ≡ r → row_at new link ≡ Some (cell v) → IsMapOf cmp code new r (bind cmp M key link) → Says cmp code new s key v
  says-put {key = key} {link = link} M o same row is = record { bindings = bind cmp M key link; map = map-seen same is; link = link; bound = bound-here cmp o key link M; row = row }

  -- and of another key what it said before
  pub says-still : {old new : Heap T} {r r' s : Root} {key k v : T} {link : ℕ} → IsTotalOrder cmp → cmp key k ≢ Equal → s ≡ r' → Extends old new
      → ((M : List (Binding T)) → IsMapOf cmp code old r M → IsMapOf cmp code new r' (bind cmp M key link)) → Says cmp code old r k v → Says cmp code new s k v
  says-still {old = old} {key = key} {k = k} {v = v} {link = link} o other same extends binds says = record {
    bindings = bind cmp says.bindings key link;
    map = map-seen same (binds says.bindings says.map);
    link = says.link;
    bound = bound-other cmp o key k other link says.bindings ∙ says.bound;
    row = Extends-row extends says.link (there old says.link v says.row) ∙ says.row;
  }

  -- a map from which a key was taken out says nothing of it
  pub says-none : {new : Heap T} {r : Root} {key : T} (M : List (Binding T)) → IsMapOf cmp code new r (unbind cmp key M) → SaysNothing cmp code new r key
  says-none {key = key} M is = record { bindings = unbind cmp key M; map = is; unbound = unbound-here cmp key M }

  -- and of another key what it said before, where the values that are left stay with all below them
  pub says-left : {old new : Heap T} {r r' : Root} {key k v : T} → IsTotalOrder cmp → cmp key k ≢ Equal → IsGraph new
      → ((M : List (Binding T)) → IsMapOf cmp code old r M → IsMapOf cmp code new r' (unbind cmp key M) × All (λ b. IsSome (row_at new b.value) → KeepsBelow old new b.value) M)
      → Says cmp code old r k v → Says cmp code new r' k v
  says-left {old} {new} {r} {r'} {key} {k} {v} o other graph left says =
      let is = left says.bindings says.map in
      let bound = unbound-other cmp o key k other says.bindings ∙ says.bound in
      let reached = value-all cmp (λ l. Reaches (links_at new) r'.root l) k says.link (unbind cmp key says.bindings) (map-reaches cmp code new r' (unbind cmp key says.bindings) is.0) bound in
      let live = Reaches-live new graph r'.root says.link reached (map-live new r' r'.root refl is.0) in
      let keeps = value-all cmp (λ l. IsSome (row_at new l) → KeepsBelow old new l) k says.link says.bindings is.1 says.bound in
      record { bindings = unbind cmp key says.bindings; map = is.0; link = says.link; bound = bound; row = keeps live says.link (here says.link) ∙ says.row }

-- a root by all bits is that of the map that has them
pub rooted-same : (r : Root) (l : ℕ) → l ≡ r.root → r.bits ≡ CODE_BITS → by_root l ≡ r
rooted-same r l at bits = ap (λ (k : ℕ). by_root k) at ∙ ap (λ (b : ℕ). let s : Root = record { root = r.root; bits = b } in s) (sym bits)
