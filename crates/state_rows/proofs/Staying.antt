-- What rows stand for stays where all that they reach stays.
use Rattle.std.proofs.Common.{◌≡◌, ℕ, List, [], ◌∷◌, Option, Some, None, option_map, map, refl, ap, sym, ◌∙◌}
use Rattle.node_heap.specs.Forms.{Form, cell, node, links_in}
use Rattle.std.specs.Prelude.{IsSome}
use Rattle.node_heap.specs.Heap.{Heap, row_at, form_at, links_at}
use Rattle.node_heap.specs.Calls.{KeepsBelow, Extends}
use Rattle.node_heap.proofs.Reach.{Reaches-trans, Reaches-by}
use Rattle.rrb_core.specs.Vector.{IsGoodVector}
use Rattle.rrb_core.specs.Vector.{height_at}
use Rattle.rrb_core.proofs.Stays.{form-live, links-form, vector-stays, well-live}
use Rattle.champ_trie.proofs.StayLemmas.{canon-live, forms-below}
use Rattle.champ_chain.specs.Entry.{Entry}
use Rattle.pool_text.specs.Pool.{relink}
use Rattle.shell_terms.specs.Edit.{Bytes}
use Rattle.plain_space.specs.Workspace.{Named, Names, State}
use Rattle.state_rows.specs.Reading.{IsTrieOfNames}
use Rattle.state_rows.specs.InHeap.{AreLinesIn, AreBuffersIn, AreNamesIn, IsStateIn}
use Rattle.state_rows.specs.Stay.{StandsOn, StatesStay}
use Rattle.state_rows.proofs.Renamed.{GoesOver, named-over, names-over, lines-over, state-over, versions-over, history-over}

pub map-self : (ks : List ℕ) → map (λ (k : ℕ). k) ks ≡ ks
map-self [] = refl
map-self (k ∷ ks) = ap (λ js. k ∷ js) (map-self ks)

relink-self : {K : Type 0} (r : Option (Form K)) → option_map (relink (λ k. k)) r ≡ r
relink-self None = refl
relink-self (Some (cell x)) = refl
relink-self (Some (node kind links)) = ap (λ ks. Some (node kind ks)) (map-self links)

-- rows that stay stand under their own links
pub goes-on : (old new : Heap Bytes) (l : ℕ) → KeepsBelow old new l → GoesOver (λ k. k) (form_at old) (form_at new) (IsGoodVector old) (IsGoodVector new) l
goes-on old new l keeps = record {
  renamed = λ m down. forms-below old new l keeps m down ∙ sym (relink-self (form_at old m));
  vectors = λ k down good.
      let seen = Reaches-by (links_in (form_at old)) (links_at old) (λ j. sym (links-form old j)) l k down in
      (vector-stays Bytes old new k (λ m more. keeps m (Reaches-trans (links_at old) l k m seen more)) good).0;
}

pub states-stay : StatesStay
states-stay old new bits l keeps =
    let over = goes-on old new l keeps in
    record {
      lines = λ xs is. lines-over (λ k. k) (form_at old) (form_at new) (IsGoodVector old) (IsGoodVector new) bits l xs over is;
      state = λ s is. state-over (λ k. k) (form_at old) (form_at new) (IsGoodVector old) (IsGoodVector new) bits l s over is;
      versions = λ m is. versions-over (λ k. k) (form_at old) (form_at new) (IsGoodVector old) (IsGoodVector new) bits l m over is;
      history = λ ss is. history-over (λ k. k) (form_at old) (form_at new) (IsGoodVector old) (IsGoodVector new) bits l ss over is;
    }

-- the root of a trie of names is there
pub trie-there : (h : Heap Bytes) {V : ℕ → Type 0} {bits l : ℕ} {E : List (Entry Bytes)} → IsTrieOfNames (form_at h) V bits l E → IsSome (row_at h l)
trie-there h {l = l} {E = E} is = canon-live _ _ h l E is.trie

-- where every row stays, what a link stands for stays
module _ (old new : Heap Bytes) (more : Extends old new) (bits l : ℕ) where
  vector-there : IsGoodVector old l → IsSome (row_at old l)
  vector-there good = well-live old (height_at old l) l good.shape.well

  pub grown : StandsOn old new bits l
  grown = record {
    lines = λ xs is. (states-stay old new bits l (more.kept l (vector-there is.vector))).lines xs is;
    state = λ s is. (states-stay old new bits l (more.kept l (form-live (row_at old l) _ is.row))).state s is;
    versions = λ m is. (states-stay old new bits l (more.kept l (trie-there old is.trie))).versions m is;
    history = λ ss is. (states-stay old new bits l (more.kept l (vector-there is.vector))).history ss is;
  }

  pub buffers-grown : (m : Named (List Bytes)) → AreBuffersIn old bits l m → AreBuffersIn new bits l m
  buffers-grown m is =
      named-over (λ k. k) (form_at old) (form_at new) (IsGoodVector old) (IsGoodVector new) bits (AreLinesIn old bits) (AreLinesIn new bits) l m
      (goes-on old new l (more.kept l (trie-there old is.trie)))
      (λ k xs over is. lines-over (λ k. k) (form_at old) (form_at new) (IsGoodVector old) (IsGoodVector new) bits k xs over is) is

  pub names-grown : (names : Names) → AreNamesIn old bits l names → AreNamesIn new bits l names
  names-grown names is =
      names-over (λ k. k) (form_at old) (form_at new) (IsGoodVector old) (IsGoodVector new) bits l names (goes-on old new l (more.kept l (trie-there old is.trie))) is

module _ {old new : Heap Bytes} (more : Extends old new) where
  -- the two parts of a state that is there, by whichever names they go
  pub buffers-kept : {bits l k : ℕ} (s : State) (is : IsStateIn old bits l s) → k ≡ is.buffers → AreBuffersIn new bits k s.buffers
  buffers-kept {bits} {l} {k} s is same = rw same (buffers-grown old new more bits is.buffers s.buffers is.buffers_are)

  pub stars-kept : {bits l k : ℕ} (s : State) (is : IsStateIn old bits l s) → k ≡ is.stars → AreNamesIn new bits k s.stars
  stars-kept {bits} {l} {k} s is same = rw same (names-grown old new more bits is.stars s.stars is.stars_are)

  -- a state row over parts that stand is one over parts that stood
  pub over-parts : {names stars : ℕ} {IsRow : ℕ → State → Type 0} → ((bits : ℕ) (s : State) → AreBuffersIn new bits names s.buffers → AreNamesIn new bits stars s.stars → IsRow bits s)
      → (bits : ℕ) (s : State) → AreBuffersIn old bits names s.buffers → AreNamesIn old bits stars s.stars → IsRow bits s
  over-parts {names} {stars} row bits s buffers stars_are = row bits s (buffers-grown old new more bits names s.buffers buffers) (names-grown old new more bits stars s.stars stars_are)
