-- What an edit makes of a map's entries.
use Rattle.std.proofs.Common.{◌≡◌, ℕ, ◌+◌, ◌≤◌, List, [], ◌∷◌, true, false, not, refl, ap, sym, subst, ◌∙◌, arith, Option, Some, None, Result, Ok, Err}
use Rattle.std.specs.Prelude.{IsOk, OnOk, OnErr, is_err, IfSome, MatchOption, option_map, unwrap_or}
use Rattle.std.specs.List.{All, AllZip}
use Rattle.std.proofs.lemmas.List.Elements.{All-cons, All-filter}
use Rattle.std.specs.Cmp.{IsTotalOrder, tied_itself}
use Rattle.std.specs.declared.cmp.Ordering.{Ordering}
use Rattle.std.specs.declared.cmp.Ordering.TheVariants.{Equal}
use Rattle.node_heap.specs.Forms.{Forms, cell, node, pair, value_of}
use Rattle.node_heap.specs.Heap.{Heap, form_at}
use Rattle.node_heap.specs.Calls.{Extends, Unchanged, Builds}
use Rattle.node_heap.proofs.Frames.{Extends-trans}
use Rattle.node_heap.proofs.BuildLemmas.{Builds-both, Builds-then, Builds-more, count-cons, count-one}
use Rattle.champ_chain.specs.Entry.{Entry, entry, key_of, key_at, has_key, link_with, others, put}
use Rattle.champ_chain.proofs.FrameLemmas.{KeepsForms, forms-kept, forms-same}
use Rattle.champ_chain.proofs.SetLemmas.{same-find}
use Rattle.champ_trie.specs.Trie.{IsTrieOf}
use Rattle.champ_trie.proofs.CanonLemmas.{has-one-set}
use Rattle.champ_kinds.specs.Root.{Root}
use Rattle.champ_kinds.specs.Binding.{Binding, binding, bind, unbind, kept_key}
use Rattle.champ_kinds.specs.Kinds.{IsKeyCell, IsPair, HasEntries, IsSetOf, IsMapOf}
use Rattle.champ_kinds.specs.Edit.{PutsPair}
use Rattle.champ_kinds.proofs.ZipLemmas.{zip-as}
use Rattle.champ_kinds.proofs.PairLemmas.{found-pairs, absent-pairs, others-pairs, link-none, others-none, others-same}

pub at-ok : {X E : Type 0} (r : Result X E) {P : Type 0} → is_err r ≡ false → OnOk r P → P
at-ok (Ok x) fine p = p
at-ok (Err e) fine p = absurd (cc)

pub at-err : {X E : Type 0} (r : Result X E) {P : Type 0} → is_err r ≡ true → OnErr r P → P
at-err (Ok x) failed p = absurd (cc)
at-err (Err e) failed p = p

pub not-err : {X E : Type 0} (r : Result X E) → is_err r ≡ true → IsOk r → ⊥
not-err (Ok x) failed ok = cc
not-err (Err e) failed ok = cc

pub if-some : {X : Type 0} (r : Option X) (x : X) (P : X → Type 0) → r ≡ Some x → IfSome r P → P x
if-some r x P is p = subst (λ s. IfSome s P) is p

module _ {K : Type 0} (F G : Forms K) (keeps : KeepsForms F G) where
  pub pair-kept : (e : Entry K) (b : Binding K) → IsPair F e b → IsPair G e b
  pair-kept e b p = record {
    key_cell = p.key_cell;
    cell = keeps.kept p.key_cell _ p.cell;
    row = keeps.kept e.link _ p.row;
    key = p.key;
  }

  pub pairs-kept : (E : List (Entry K)) (M : List (Binding K)) → AllZip (IsPair F) E M → AllZip (IsPair G) E M
  pairs-kept E M pairs = zip-as (IsPair F) (IsPair G) pair-kept E M pairs

  pub cells-kept : (E : List (Entry K)) → All (IsKeyCell F) E → All (IsKeyCell G) E
  cells-kept E cells = λ k d in'. keeps.kept _ _ (cells k d in')

module _ {T : Type 0} (cmp : T → T → Ordering) (code : T → ℕ) {old new : Heap T} (more : Extends old new) (r : Root) (root : ℕ) (key : T) where
  pub set-left : (E : List (Entry T)) → IsSetOf cmp code old r E → IsTrieOf cmp code r.bits new root (others cmp key E) → IsSetOf cmp code new (record { root = root; bits = r.bits }) (others cmp key E)
  set-left E is left = record {
    rooted = record { bits = is.rooted.bits; trie = left };
    cells = All-filter (λ e. not (has_key cmp key e)) (IsKeyCell (form_at new)) E (cells-kept (form_at old) (form_at new) (forms-kept old new more) E is.cells);
  }

  pub map-left : (M : List (Binding T)) (is : IsMapOf cmp code old r M) → IsTrieOf cmp code r.bits new root (others cmp key is.entries) → IsMapOf cmp code new (record { root = root; bits = r.bits }) (unbind cmp key M)
  map-left M is left = record {
    entries = others cmp key is.entries;
    rooted = record { bits = is.rooted.bits; trie = left };
    pairs = others-pairs (form_at new) cmp key is.entries M (pairs-kept (form_at old) (form_at new) (forms-kept old new more) is.entries M is.pairs);
  }

  -- the set with the key's cell
  pub set-with : (x : ℕ) (E : List (Entry T)) → IsSetOf cmp code old r E → link_with cmp key E ≡ None → form_at new x ≡ Some (cell key) → IsTrieOf cmp code r.bits new root (put cmp E (entry key x))
      → IsSetOf cmp code new (record { root = root; bits = r.bits }) (entry key x ∷ E)
  set-with x E is none here made = record {
    rooted = record { bits = is.rooted.bits; trie = subst (λ es. IsTrieOf cmp code r.bits new root (entry key x ∷ es)) (others-none cmp key E (link-none cmp key E none)) made };
    cells = All-cons (IsKeyCell (form_at new)) (entry key x) E here (cells-kept (form_at old) (form_at new) (forms-kept old new more) E is.cells);
  }

module _ {K : Type 0} (cmp : K → K → Ordering) (o : IsTotalOrder cmp) where
  -- the cell that a key has got, after a look-up in F
  pub record HasCell (F G : Forms K) (key : K) (M : List (Binding K)) (found : Option ℕ) (x : ℕ) : Type 0 where
    pub key_there : K
    pub same : cmp key key_there ≡ Equal
    pub kept : kept_key cmp key M ≡ key_there
    pub here : G x ≡ Some (cell key_there)
    pub new_key : found ≡ None → key_there ≡ key
    pub old_cell : (z first second : ℕ) → found ≡ Some z → F z ≡ Some (node pair (first ∷ second ∷ [])) → x ≡ first

  -- what a look-up found is a pair
  pub pair-found : (F : Forms K) (key : K) (E : List (Entry K)) (M : List (Binding K)) (found : Option ℕ) → AllZip (IsPair F) E M → found ≡ link_with cmp key E → IfSome found (λ x. (b : Binding K) × IsPair F (entry b.key x) b)
  pair-found F key E M None are is = tt
  pair-found F key E M (Some x) are is = let f = found-pairs F cmp key E M x are (sym is) in (binding f.found f.value, f.pair)

  pub cell-got : (F G : Forms K) → KeepsForms F G → (key : K) (E : List (Entry K)) (M : List (Binding K)) (found : Option ℕ) (x : ℕ) → AllZip (IsPair F) E M → found ≡ link_with cmp key E
      → MatchOption found (G x ≡ Some (cell key)) (λ z. (b : Binding K) → (p : IsPair F (entry b.key z) b) → x ≡ p.key_cell) → HasCell F G key M found x
  cell-got F G keeps key E M None x are is got = record {
    key_there = key;
    same = tied_itself o key;
    kept = ap (λ r. unwrap_or (option_map (λ (b : Binding K). b.key) r) key) (absent-pairs F cmp key E M are (link-none cmp key E (sym is)));
    here = got;
    new_key = λ _. refl;
    old_cell = λ z first second at row. absurd (cc);
  }
  cell-got F G keeps key E M (Some z) x are is got =
      let f = found-pairs F cmp key E M z are (sym is) in
      let at = got (binding f.found f.value) f.pair in
      record {
        key_there = f.found;
        same = f.same;
        kept = f.kept;
        here = ap G at ∙ keeps.kept f.pair.key_cell _ f.pair.cell;
        new_key = λ none. absurd (cc);
        old_cell = λ w first second same row.
            let rows : F z ≡ F w = ap (λ (r : Option ℕ). F (unwrap_or r 0)) same in
            let read : Some (node pair (f.pair.key_cell ∷ f.value ∷ [])) ≡ Some (node pair (first ∷ second ∷ [])) = sym f.pair.row ∙ (rows ∙ row) in
            at ∙ cc;
      }

-- what is found among some entries of a root is found among any
pub found-any : {T : Type 0} (cmp : T → T → Ordering) (o : IsTotalOrder cmp) (code : T → ℕ) (h : Heap T) (r : Root) (key : T) (found : Option ℕ) → (D : List (Entry T)) × HasEntries cmp code h r D × (found ≡ link_with cmp key D)
    → (E : List (Entry T)) → HasEntries cmp code h r E → found ≡ link_with cmp key E
found-any {T} cmp o code h r key found looked E is =
    let one = has-one-set cmp _ o (form_at h) r.root looked.0 E looked.1.trie is.trie in
    looked.2 ∙ ap (option_map (λ (e : Entry T). e.link)) (same-find (has_key cmp key) looked.0 E one (looked.1.trie.distinct.once key))

module _ {T : Type 0} where
  -- the key got its cell, and the pair of it and the value was made
  pub record MakesPair (old gained paired : Heap T) (x value y : ℕ) : Type 0 where
    pub gain : Builds old gained [] (x ∷ []) 1 0
    pub pair_made : Builds gained paired (x ∷ value ∷ []) (y ∷ []) 0 1
    pub row : form_at paired y ≡ Some (node pair (x ∷ value ∷ []))

  module _ {old gained paired : Heap T} {x value y : ℕ} (made : MakesPair old gained paired x value y) where
    pub made-builds : Builds old paired (value ∷ []) (y ∷ []) 1 1
    made-builds = Builds-both (value ∷ []) (y ∷ []) made.gain made.pair_made (λ k. omega (arith, count-cons k x (value ∷ []), count-one k x)) (omega arith)

    pub all-built : (new : Heap T) (root n m : ℕ) → n + 1 ≤ m → Builds paired new (y ∷ []) (root ∷ []) 0 n → Builds old new (value ∷ []) (root ∷ []) 1 m
    all-built new root n m fits more = Builds-more 1 m (Builds-then made-builds more) (omega arith) (omega arith)

    module _ (cmp : T → T → Ordering) (o : IsTotalOrder cmp) {key : T} {M : List (Binding T)} {found : Option ℕ} (got : HasCell cmp o (form_at old) (form_at gained) key M found x) where
      pub made-cell : form_at paired x ≡ Some (cell got.key_there)
      made-cell = let keeps = forms-kept gained paired made.pair_made.extends in keeps.kept x _ got.here

      pub made-key : key_at (form_at paired) y ≡ Some got.key_there
      made-key = ap (key_of (form_at paired)) made.row ∙ ap value_of made-cell

      module _ (code : T → ℕ) (new : Heap T) (more : Extends paired new) where
        made-pair : IsPair (form_at new) (entry got.key_there y) (binding got.key_there value)
        made-pair = let keeps = forms-kept paired new more in record { key_cell = x; cell = keeps.kept x _ made-cell; row = keeps.kept y _ made.row; key = refl }

        others-kept : (root bits : ℕ) (E : List (Entry T)) → IsTrieOf cmp code bits new root (put cmp E (entry got.key_there y)) → IsTrieOf cmp code bits new root (entry got.key_there y ∷ others cmp key E)
        others-kept root bits E is = subst (λ es. IsTrieOf cmp code bits new root (entry got.key_there y ∷ es)) (sym (others-same cmp o key got.key_there got.same E)) is

        pub map-with : (r : Root) (root : ℕ) (is : IsMapOf cmp code old r M) → IsTrieOf cmp code r.bits new root (put cmp is.entries (entry got.key_there y)) → IsMapOf cmp code new (record { root = root; bits = r.bits }) (bind cmp M key value)
        unfolding made-pair
        map-with r root is trie = record {
          entries = entry got.key_there y ∷ others cmp key is.entries;
          rooted = record { bits = is.rooted.bits; trie = others-kept root r.bits is.entries trie };
          pairs = (
            record { key_cell = x; cell = made-pair.cell; row = made-pair.row; key = got.kept },
            others-pairs (form_at new) cmp key is.entries M (pairs-kept (form_at old) (form_at new) (forms-kept old new (Extends-trans made-builds.extends more)) is.entries M is.pairs),
          );
        }

        pub puts-pair : (r : Root) (root : ℕ) (E : List (Entry T)) → HasEntries cmp code old r E → found ≡ link_with cmp key E → IsTrieOf cmp code r.bits new root (put cmp E (entry got.key_there y))
            → PutsPair cmp code old new (record { root = root; bits = r.bits }) E key value
        unfolding made-pair
        puts-pair r root E is look trie = record {
          entry = entry got.key_there y;
          entries = record { bits = is.bits; trie = others-kept root r.bits E trie };
          same_key = got.same;
          is_pair = made-pair;
          old_cell = λ z first second there row. got.old_cell z first second (look ∙ there) row;
          new_key = λ none. got.new_key (look ∙ none);
        }

  -- room was made first
  pub puts-before : {cmp : T → T → Ordering} {code : T → ℕ} {old mid new : Heap T} {r : Root} {E : List (Entry T)} {key : T} {value : ℕ} → Unchanged old mid → PutsPair cmp code mid new r E key value → PutsPair cmp code old new r E key value
  puts-before {old = old} {mid = mid} same puts = record {
    entry = puts.entry;
    entries = puts.entries;
    same_key = puts.same_key;
    is_pair = puts.is_pair;
    old_cell = λ z first second there row. puts.old_cell z first second there (let keeps = forms-same old mid same.rows in keeps.kept z _ row);
    new_key = puts.new_key;
  }
