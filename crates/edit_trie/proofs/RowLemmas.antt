-- Rows of a heap by their heads and links, and entries by their rows.
use Rattle.std.proofs.Common.{◌≡◌, ◌≢◌, ℕ, ◌<◌, List, [], ◌∷◌, length, get_or, refl, ap, sym, ◌∙◌, arith, Option, Some, None, IsSome, option_map}
use Rattle.node_heap.specs.Forms.{Forms, Form, Row, Kind, cell, node, leaf, inner, trie, chain, pair, state, links_of, head_of, value_of, form_of, kind_of, is_node}
use Rattle.node_heap.specs.Heap.{Heap, row_at, form_at, links_at}
use Rattle.node_heap.specs.Reads.{IsTrieForm}
use Rattle.node_heap.specs.declared.row.Head.{Head}
use Rattle.node_heap.specs.InPlace.{child_at}
use Rattle.champ_chain.specs.Entry.{key_at, key_of, first_value}
use Rattle.champ_chain.proofs.CallerLemmas.{links-form, key-live}
use Rattle.champ_trie.specs.Trie.{IsRow}
use Rattle.champ_trie.specs.declared.place.Place.{Place}
use Rattle.champ_trie.proofs.CallerLemmas.{Changes, entry-in, node-in}
use Rattle.edit_trie.specs.Spot.{IsSpot, PutsAt}
use Rattle.edit_trie.specs.declared.row.Spot.{Spot}
use Rattle.edit_trie.specs.declared.row.Spot.TheVariants.{Entry as EntryAt, Node as NodeAt}

module _ {K : Type 0} where
  -- a row like that of an entry is of the same key, where each cell stays
  pub key-moved : (F G : Forms K) (y r : ℕ) (k : K) → G r ≡ F y → ((s : ℕ) (z : K) → value_of (F s) ≡ Some z → value_of (G s) ≡ Some z) → key_at F y ≡ Some k → key_at G r ≡ Some k
  key-moved F G y r k moved cells is = by_form (F y) refl is
    where
      by_links : (links : List ℕ) → first_value F links ≡ Some k → first_value G links ≡ Some k
      by_links [] is = absurd cc
      by_links (j ∷ js) is = cells j k is

      by_form : (f : Option (Form K)) → F y ≡ f → key_of F f ≡ Some k → key_of G (G r) ≡ Some k
      by_form None e is = cc
      by_form (Some (cell z)) e is = ap (key_of G) (moved ∙ e) ∙ is
      by_form (Some (node leaf links)) e is = cc
      by_form (Some (node (inner height) links)) e is = cc
      by_form (Some (node (trie d s n) links)) e is = cc
      by_form (Some (node chain links)) e is = cc
      by_form (Some (node pair links)) e is = ap (key_of G) (moved ∙ e) ∙ by_links links is
      by_form (Some (node state links)) e is = cc

  -- an entry's row is none of a trie
  pub not-row : (F : Forms K) (y l d e n : ℕ) (ls : List ℕ) (k : K) → key_at F y ≡ Some k → F l ≡ Some (node (trie d e n) ls) → y ≢ l
  not-row F y l d e n ls k keyed row same = let bad : key_of F (Some (node (trie d e n) ls)) ≡ Some k = sym (ap (key_of F) (ap F same ∙ row)) ∙ keyed in cc

  -- and it has no key
  pub row-keyless : (F : Forms K) (l d e n : ℕ) (ls : List ℕ) → IsRow F l d e n ls → key_at F l ≡ None
  row-keyless F l d e n ls is = ap (key_of F) is.row

  -- a cell is none
  pub not-cell : (F : Forms K) (y l d e n : ℕ) (ls : List ℕ) (z : K) → value_of (F y) ≡ Some z → F l ≡ Some (node (trie d e n) ls) → y ≢ l
  not-cell F y l d e n ls z value row same = let bad : value_of (Some (node (trie d e n) ls)) ≡ Some z = sym (ap value_of (ap F same ∙ row)) ∙ value in cc

module _ {T : Type 0} where
  -- a row with the head of another, and with these links, is of the same kind
  pub row-form : (r s : Option (Row T)) (kind : Kind) (ls ks : List ℕ) → head_of r ≡ head_of s → links_of r ≡ ks → option_map form_of s ≡ Some (node kind ls) → option_map form_of r ≡ Some (node kind ks)
  row-form r None kind ls ks head links form = cc
  row-form r (Some (cell x)) kind ls ks head links form = cc
  row-form None (Some (node h js)) kind ls ks head links form = cc
  row-form (Some (cell x)) (Some (node h js)) kind ls ks head links form = cc
  row-form (Some (node g is)) (Some (node h js)) kind ls ks head links form =
      let same : g ≡ h = cc in
      let kind_is : kind_of h ≡ kind = cc in
      ap (λ k. Some (node k is)) (ap kind_of same ∙ kind_is) ∙ ap (λ xs. Some (node kind xs)) links

  -- a node by its head and its links
  pub row-made : (r : Option (Row T)) (head : Head) (ks : List ℕ) → head_of r ≡ Some head → links_of r ≡ ks → option_map form_of r ≡ Some (node (kind_of head) ks)
  row-made None head ks is links = cc
  row-made (Some (cell x)) head ks is links = cc
  row-made (Some (node h js)) head ks is links = let same : h ≡ head = cc in ap (λ g. Some (node (kind_of g) js)) same ∙ ap (λ js. Some (node (kind_of head) js)) links

  -- a row of these sets and links has what they have
  pub puts-row : (new : Heap T) (row d e n p : ℕ) (ls : List ℕ) {e' n' : ℕ} {ls' : List ℕ} {place : Place} {head : Head} → Changes e n ls e' n' ls' p place → head_of (row_at new row) ≡ Some head → kind_of head ≡ trie d e' n' → links_of (row_at new row) ≡ ls' → PutsAt (form_at new) row d e n ls p place
  puts-row new row d e n p ls {e' = e'} {n' = n'} {ls' = ls'} {head = head} changed is kind links = record {
    entries = e';
    nodes = n';
    links = ls';
    row_is = record { row = row-made (row_at new row) head ls' is links ∙ ap (λ k. Some (node k ls')) kind; sets = changed.sets };
    puts = changed.here;
    others = changed.others;
  }

  -- a row with the head of a node is one
  pub node-head : (r s : Option (Row T)) → head_of r ≡ head_of s → is_node s ≡ 1 → is_node r ≡ 1
  node-head None None heads is = cc
  node-head None (Some (cell x)) heads is = cc
  node-head None (Some (node h ks)) heads is = absurd cc
  node-head (Some (cell x)) None heads is = cc
  node-head (Some (cell x)) (Some (cell y)) heads is = cc
  node-head (Some (cell x)) (Some (node h ks)) heads is = absurd cc
  node-head (Some (node h ks)) s heads is = refl

  -- a form with a kind is a node's
  pub node-form : (r : Option (Row T)) (kind : Kind) (ls : List ℕ) → option_map form_of r ≡ Some (node kind ls) → is_node r ≡ 1
  node-form None kind ls is = cc
  node-form (Some (cell x)) kind ls is = cc
  node-form (Some (node h ks)) kind ls is = refl

  -- what has a value is there
  pub value-live : (r : Option (Row T)) (z : T) → value_of (option_map form_of r) ≡ Some z → IsSome r
  value-live None z is = absurd cc
  value-live (Some x) z is = refl

  -- what has a value has it as its key
  value-key : (F : Forms T) (f : Option (Form T)) (z : T) → value_of f ≡ Some z → key_of F f ≡ Some z
  value-key F None z is = absurd cc
  value-key F (Some (cell x)) z is = is
  value-key F (Some (node k ls)) z is = absurd cc

  -- keys, and what names one, stay where a row is written that has none
  module _ (old new : Heap T) (r : ℕ) (keyless : key_at (form_at old) r ≡ None) (others : (m : ℕ) → m ≢ r → IsSome (row_at old m) → row_at new m ≡ row_at old m) where
    pub keyed-row : (s : ℕ) (z : T) → key_at (form_at old) s ≡ Some z → row_at new s ≡ row_at old s
    keyed-row s z has = others s (λ at. let bad : None ≡ Some z = sym keyless ∙ sym (ap (key_at (form_at old)) at) ∙ has in cc) (key-live old s z has)

    pub cells-kept : (s : ℕ) (z : T) → value_of (form_at old s) ≡ Some z → value_of (form_at new s) ≡ Some z
    cells-kept s z value = ap value_of (ap (option_map form_of) (keyed-row s z (value-key (form_at old) (form_at old s) z value))) ∙ value

    pub keys-stay : (x : ℕ) (k : T) → key_at (form_at old) x ≡ Some k → key_at (form_at new) x ≡ Some k
    keys-stay x k keyed = key-moved (form_at old) (form_at new) x x k (ap (option_map form_of) (keyed-row x k keyed)) cells-kept keyed

  module _ (h : Heap T) (row d e n : ℕ) (ls : List ℕ) (is : IsRow (form_at h) row d e n ls) where
    pub row-links : links_at h row ≡ ls
    row-links = sym (links-form h row) ∙ ap links_of is.row

    -- what is read of it
    pub row-read : {e' n' : ℕ} {ls' : List ℕ} → IsTrieForm (form_at h row) e' n' ls' → (e ≡ e') × (n ≡ n') × (ls ≡ ls')
    row-read {e' = e'} {n' = n'} {ls' = ls'} read =
        let same : Some (node (trie d e n) ls) ≡ Some (node (trie read.0 e' n') ls') = sym is.row ∙ read.1 in
        (cc, cc, cc)

    pub row-child : (i : ℕ) → child_at h row i ≡ get_or ls i 0
    row-child i = ap (λ ks. get_or ks i 0) row-links

    -- where the link of a position is
    pub entry-inside : (p i : ℕ) → p < 32 → IsSpot e n p (EntryAt i) → i < length (links_at h row)
    entry-inside p i small spot = omega (arith, entry-in e n ls p small is.sets spot.0, spot.1, ap length row-links)

    pub node-inside : (p i : ℕ) → p < 32 → IsSpot e n p (NodeAt i) → i < length (links_at h row)
    node-inside p i small spot = omega (arith, node-in e n ls p small is.sets spot.1, spot.2, ap length row-links)

-- a spot among sets that were read
pub spot-read : {e e' n n' p p' : ℕ} (spot : Spot) → e ≡ e' → n ≡ n' → p' ≡ p → IsSpot e' n' p' spot → IsSpot e n p spot
spot-read spot entries nodes digit is = rw (entries, nodes, sym digit) is
