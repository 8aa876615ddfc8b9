-- Roots of a heap that stand for a workspace have a valid pool, which stands for it too.
use Rattle.std.proofs.Common.{◌≡◌, ℕ, zero, suc, ◌<◌, ◌≤◌, List, [], ◌∷◌, Option, Some, None, IsSome, option_map, length, map, refl, sym, subst, arith}
use Rattle.std.specs.List.{All}
use Rattle.std.proofs.lemmas.List.Elements.{All-nil, All-cons}
use Rattle.elem_core.specs.declared.codes.TheConstants.{CODE_BITS}
use Rattle.node_heap.specs.Links.{count, here}
use Rattle.node_heap.specs.Forms.{Row, Form, Forms, form_of, links_in}
use Rattle.node_heap.specs.Heap.{Heap, row_at, form_at, IsGraph}
use Rattle.rrb_core.specs.Seq.{height_in, IsWell, IsWellShaped}
use Rattle.rrb_core.specs.Vector.{IsGoodVector}
use Rattle.champ_chain.specs.Entry.{Entry}
use Rattle.champ_trie.specs.Trie.{IsTrie}
use Rattle.pool_order.specs.Order.{order}
use Rattle.pool_text.specs.Rules.{present_rules}
use Rattle.pool_text.specs.Pool.{forms_in, place_in, settings_by, pool, pool_at}
use Rattle.pool_text.specs.Renaming.{IsRooted}
use Rattle.pool_text.specs.declared.pool.Pool.{Pool}
use Rattle.pool_text.proofs.Held.{rooted-forms, texts-are-forms}
use Rattle.pool_text.proofs.Renamed.{renamed-below}
use Rattle.pool_text.proofs.Ordered.{pool-roots}
use Rattle.pool_text.proofs.PoolRows.{pool-renamed}
use Rattle.pool_check.specs.Damages.{IsValid}
use Rattle.pool_check.specs.Passing.{PassesAsMade}
use Rattle.pool_check.proofs.VectorReadings.{all-at, vector-reads-the-same}
use Rattle.pool_check.proofs.PoolPasses.{passes-as-made}
use Rattle.shell_terms.specs.Edit.{Bytes}
use Rattle.plain_space.specs.Workspace.{State, Workspace, HasBoundedUndo}
use Rattle.state_rows.specs.Reading.{IsTrieOfNames, IsState}
use Rattle.state_rows.specs.Standing.{IsBase, StandFor, StandsFor, HeapStandsFor}
use Rattle.state_rows.proofs.PassesSpace.{standing-valid}
use Rattle.state_rows.proofs.Renamed.{GoesOver, roots-over}

form-there : (F : Forms Bytes) (l : ℕ) (form : Form Bytes) → F l ≡ Some form → IsSome (F l)
form-there F l form is = subst IsSome (sym is) refl

-- roots that stand for a workspace are there, where vectors are
module _ (F : Forms Bytes) (V : ℕ → Type 0) (bits : ℕ) (vector-there : (l : ℕ) → V l → IsSome (F l)) where
  trie-there : (l : ℕ) (E : List (Entry Bytes)) → IsTrieOfNames F V bits l E → IsSome (F l)
  unfolding IsTrie
  trie-there l E is = form-there F l _ is.trie.trie.row.row

  base-there : (base : List ℕ) (now : Option State) → IsBase (IsState F V bits) base now → All (λ l. IsSome (F l)) base
  base-there [] None is = All-nil (λ l. IsSome (F l))
  base-there [] (Some now) is = absurd is
  base-there (l ∷ []) None is = absurd is
  base-there (l ∷ []) (Some now) is = All-cons (λ l. IsSome (F l)) l [] (form-there F l _ is.row) (All-nil (λ l. IsSome (F l)))
  base-there (l ∷ m ∷ ls) None is = absurd is
  base-there (l ∷ m ∷ ls) (Some now) is = absurd is

  roots-there : (roots : List ℕ) (W : Workspace) → StandFor F V bits roots W → All (λ l. IsSome (F l)) roots
  roots-there [] W is = absurd is
  roots-there (c ∷ []) W is = absurd is
  roots-there (c ∷ v ∷ []) W is = absurd is
  roots-there (c ∷ v ∷ u ∷ []) W is = absurd is
  roots-there (c ∷ v ∷ u ∷ r ∷ base) W is =
      All-cons (λ l. IsSome (F l)) c (v ∷ u ∷ r ∷ base) (form-there F c _ is.0.row)
      (All-cons (λ l. IsSome (F l)) v (u ∷ r ∷ base) (trie-there v is.1.entries is.1.trie)
      (All-cons (λ l. IsSome (F l)) u (r ∷ base) (vector-there u is.2.vector) (All-cons (λ l. IsSome (F l)) r base (vector-there r is.3.vector) (base-there base W.base is.4))))

well-there : (F : Forms Bytes) (n l : ℕ) → IsWell F n l → IsSome (F l)
unfolding IsWell
well-there F zero l well = form-there F l _ well.kind
well-there F (suc n) l well = form-there F l _ well.kind

pub pool-bits : (n : ℕ) (G : Forms Bytes) (roots : List ℕ) (bits history : ℕ) → (pool n G roots (settings_by bits history)).bits ≡ bits
unfolding pool
pool-bits n G roots bits history = refl

pub pool-history : (n : ℕ) (G : Forms Bytes) (roots : List ℕ) (bits history : ℕ) → (pool n G roots (settings_by bits history)).history ≡ history
unfolding pool
pool-history n G roots bits history = refl

module _ (h : Heap Bytes) (bits : ℕ) (roots : List ℕ) (W : Workspace) (graph : IsGraph h) (stands : HeapStandsFor h bits roots W) where
  row-some : (r : Option (Row Bytes)) → IsSome (option_map form_of r) → IsSome r
  row-some None some = some
  row-some (Some x) some = refl

  live : (r : ℕ) → 0 < count r roots → IsSome (row_at h r)
  live r root =
      row-some (row_at h r) (all-at (λ l. IsSome (form_at h l)) roots (roots-there (form_at h) (IsGoodVector h) bits (λ l good. well-there (form_at h) (height_in (form_at h) l) l good.shape.well) roots W stands) r root)

  rooted : IsRooted (length h.rows) (form_at h) roots
  rooted = rooted-forms h roots graph live

  abbrev made : Pool
  made = pool (length h.rows) (form_at h) roots (settings_by bits W.history)

  root-over : (r : ℕ) → 0 < count r roots → GoesOver (place_in (order (length h.rows) (links_in (form_at h)) roots)) (form_at h) (forms_in made) (IsGoodVector h) (IsWellShaped (forms_in made)) r
  root-over r root =
      let f : ℕ → ℕ = place_in (order (length h.rows) (links_in (form_at h)) roots) in
      let image = pool-renamed (length h.rows) (form_at h) roots rooted (settings_by bits W.history) r r root (here r) in
      record {
        renamed = image;
        vectors = λ k down good. (vector-reads-the-same f (form_at h) (forms_in made) ℕ k (renamed-below f (form_at h) (forms_in made) r k down image)).shaped good.shape;
      }

  made-stands : StandsFor made W
  made-stands =
      let f : ℕ → ℕ = place_in (order (length h.rows) (links_in (form_at h)) roots) in
      let moved : StandFor (forms_in made) (IsWellShaped (forms_in made)) bits (map f roots) W = roots-over f (form_at h) (forms_in made) (IsGoodVector h) (IsWellShaped (forms_in made)) bits present_rules roots W root-over stands in
      let placed : StandFor (forms_in made) (IsWellShaped (forms_in made)) bits made.roots W = subst (λ rs. StandFor (forms_in made) (IsWellShaped (forms_in made)) bits rs W) (sym (pool-roots (length h.rows) (form_at h) roots rooted (settings_by bits W.history))) moved in (
        subst (λ b. StandFor (forms_in made) (IsWellShaped (forms_in made)) b made.roots W) (sym (pool-bits (length h.rows) (form_at h) roots bits W.history)) placed,
        sym (pool-history (length h.rows) (form_at h) roots bits W.history),
      )

  pub pool-stands : bits ≤ CODE_BITS → HasBoundedUndo W → IsValid (pool_at (λ text. text) h roots (settings_by bits W.history)) × StandsFor (pool_at (λ text. text) h roots (settings_by bits W.history)) W
  pool-stands few fits =
      let passes : PassesAsMade (form_at h) roots made = passes-as-made (length h.rows) (form_at h) roots rooted (settings_by bits W.history) in
      subst (λ (P : Pool). IsValid P × StandsFor P W) (sym (texts-are-forms h roots (settings_by bits W.history)))
      (standing-valid present_rules made W (omega (arith, few, pool-bits (length h.rows) (form_at h) roots bits W.history)) made-stands fits passes.lead_back passes.in_order, made-stands)
