-- Chains whose first rows were made one's own, and what is written after them.
use Rattle.std.proofs.Common.{◌≡◌, ◌≢◌, ℕ, suc, zero, ◌+◌, ◌<◌, List, [], ◌∷◌, ◌++◌, length, refl, ap, sym, subst, ◌∙◌, arith, Option, Some, None, inl, inr, ◌≤◌, take, drop, get_or, set, IsSome, option_map, append_assoc, length-append, length-drop}
use Rattle.std.specs.Prelude.{option_to_list}
use Rattle.std.specs.Ordering.{match_ordering}
use Rattle.std.specs.declared.cmp.Ordering.{Ordering}
use Rattle.std.specs.List.{slice_get}
use Rattle.std.proofs.lemmas.Bool.{cases_eq}
use Rattle.std.proofs.lemmas.List.{get_or-set_same, length-set, set-get_or, take-append-drop}
use Rattle.std.proofs.lemmas.Option.{slice_get-get_or, get_or_from_slice_get, slice_get_within, slice_get_read}
use Rattle.node_heap.specs.Links.{count, HasLink, Reaches, here, below}
use Rattle.node_heap.specs.Forms.{Forms, node, chain, links_in, links_of, head_of, form_of}
use Rattle.node_heap.specs.Heap.{Heap, row_at, form_at, links_at, owners_at, IsGraph}
use Rattle.node_heap.specs.InPlace.{child_at, OwnsDown, path_start, path_then, Changes}
use Rattle.node_heap.specs.Owner.{written, alone}
use Rattle.node_heap.proofs.CallerLemmas.{test_same, test_other, count-link as count-cons, SameBelow-link, Reaches-by, IsGraph-acyclic, IsSolePath-Reaches, KeepsBelow-trans, linked_live, KeepsPaths-owned, Changes-more, Changes-path, Changes-Unchanged, Gains-trans, KeepsAlone-cons, KeepsAlone-own, alone-yes, written-own, alone-own, Reaches-live, OwnsChild, child-linked, own-there, own-linked, own-beneath, gains-child}
use Rattle.champ_chain.specs.Entry.{Entry, IsEntry, key_at, key_of}
use Rattle.champ_chain.specs.Chain.{AreChainRows, AreBelow}
use Rattle.champ_chain.proofs.CallerLemmas.{first-row, row-next, links-form, rows-none}
use Rattle.champ_trie.proofs.CallerLemmas.{has-next, forms-below, key-stays, has-first}
use Rattle.edit_trie.specs.Path.{chain_rows, next_in}
use Rattle.edit_trie.specs.Chains.{IsFront, IsPast, OwnsRows, link_in}
use Rattle.edit_trie.specs.Walk.{EditsChild}
use Rattle.edit_trie.proofs.PathLemmas.{chain-row, order-row, next-row}
use Rattle.edit_trie.proofs.RowLemmas.{row-form, keys-stay}
use Rattle.edit_trie.proofs.ChildLemmas.{child-then}
use Rattle.edit_trie.proofs.StepLemmas.{none-live, off-first}

-- what is counted in a list with another first element
pub count-later : (x y : ℕ) (ys : List ℕ) → 0 < count x ys → 0 < count x (y ∷ ys)
count-later x y ys some = omega (arith, count-cons x y ys, some)

pub count-here : (y : ℕ) (ys : List ℕ) → 0 < count y (y ∷ ys)
count-here y ys = omega (arith, count-cons y y ys, test_same y y refl)

module _ {K : Type 0} (F : Forms K) where
  -- the rows of the front, and the chain rows after them
  pub front-rows : (o : Option ℕ) (cs : List ℕ) (es : List (Entry K)) (rest : Option ℕ) (ts : List (Entry K)) → IsFront F o cs es rest → AreChainRows F rest ts → AreChainRows F o (es ++ ts)
  unfolding IsFront AreChainRows
  front-rows o [] [] rest ts is rows = subst (λ p. AreChainRows F p ts) (sym is) rows
  front-rows o [] (e ∷ es) rest ts is rows = absurd is
  front-rows o (c ∷ cs) [] rest ts is rows = absurd is
  front-rows o (c ∷ cs) (e ∷ es) rest ts is rows = record { link = c; next = is.2; here = is.0; row = is.3; key = is.1; rest = front-rows is.2 cs es rest ts is.4 rows }

  -- the chain rows after the front
  pub front-rest : (o : Option ℕ) (cs : List ℕ) (es : List (Entry K)) (rest : Option ℕ) (ts : List (Entry K)) → IsFront F o cs es rest → AreChainRows F o (es ++ ts) → AreChainRows F rest ts
  unfolding IsFront
  front-rest o [] [] rest ts is rows = subst (λ p. AreChainRows F p ts) is rows
  front-rest o [] (e ∷ es) rest ts is rows = absurd is
  front-rest o (c ∷ cs) [] rest ts is rows = absurd is
  front-rest o (c ∷ cs) (e ∷ es) rest ts is rows =
      let at = first-row F c (e ∷ (es ++ ts)) (subst (λ p. AreChainRows F p (e ∷ (es ++ ts))) is.0 rows) in
      let others : at.others ≡ es ++ ts = (let w = at.whole in cc) in
      let same : at.next ≡ is.2 = row-next F c at.first.link e.link at.next is.2 at.row is.3 in
      front-rest is.2 cs es rest ts is.4 (subst (λ p. AreChainRows F p (es ++ ts)) same (subst (AreChainRows F at.next) others at.rows))

  -- one row more
  pub front-push : (o : Option ℕ) (cs : List ℕ) (es : List (Entry K)) (c : ℕ) (e : Entry K) (next : Option ℕ) → IsFront F o cs es (Some c) → F c ≡ Some (node chain (e.link ∷ option_to_list next)) → IsEntry F e → IsFront F o (cs ++ c ∷ []) (es ++ e ∷ []) next
  unfolding IsFront
  front-push o [] [] c e next is row keyed = (is, keyed, next, row, refl)
  front-push o [] (d ∷ es) c e next is row keyed = absurd is
  front-push o (b ∷ cs) [] c e next is row keyed = absurd is
  front-push o (b ∷ cs) (d ∷ es) c e next is row keyed = (is.0, is.1, is.2, is.3, front-push is.2 cs es c e next is.4 row keyed)

  -- the last row of a front
  pub record IsLastRow (o : Option ℕ) (cs : List ℕ) (es : List (Entry K)) (e : Entry K) (rest : Option ℕ) : Type 0 where
    pub before : List ℕ
    pub last : ℕ
    pub whole : cs ≡ before ++ last ∷ []
    pub front : IsFront F o before es (Some last)
    pub row : F last ≡ Some (node chain (e.link ∷ option_to_list rest))
    pub keyed : IsEntry F e

  pub front-last : (o : Option ℕ) (cs : List ℕ) (es : List (Entry K)) (e : Entry K) (rest : Option ℕ) → IsFront F o cs (es ++ e ∷ []) rest → IsLastRow o cs es e rest
  unfolding IsFront
  front-last o [] [] e rest is = absurd is
  front-last o [] (d ∷ es) e rest is = absurd is
  front-last o (c ∷ []) [] e rest is = record { before = []; last = c; whole = refl; front = is.0; row = is.3 ∙ ap (λ (p : Option ℕ). Some (node chain (e.link ∷ option_to_list p))) is.4; keyed = is.1 }
  front-last o (c ∷ b ∷ cs) [] e rest is = absurd is.4
  front-last o (c ∷ cs) (d ∷ es) e rest is =
      let at = front-last is.2 cs es e rest is.4 in
      record { before = c ∷ at.before; last = at.last; whole = ap (λ ks. c ∷ ks) at.whole; front = (is.0, is.1, is.2, is.3, at.front); row = at.row; keyed = at.keyed }

  -- there is no front from nothing on
  front-none : (cs : List ℕ) (es : List (Entry K)) (r : ℕ) (rest : Option ℕ) → IsFront F None (cs ++ r ∷ []) es rest → ⊥
  unfolding IsFront
  front-none [] [] r rest is = is
  front-none [] (e ∷ es) r rest is = absurd (let bad : None ≡ Some r = is.0 in cc)
  front-none (c ∷ cs) [] r rest is = is
  front-none (c ∷ cs) (e ∷ es) r rest is = absurd (let bad : None ≡ Some c = is.0 in cc)

  -- a row of a front leads to the next one, from which there is a way to the last
  next-above : (c x : ℕ) (next : Option ℕ) (cs : List ℕ) (es : List (Entry K)) (r : ℕ) (rest : Option ℕ) → F c ≡ Some (node chain (x ∷ option_to_list next)) → IsFront F next (cs ++ r ∷ []) es rest
      → ((b : ℕ) → IsFront F (Some b) (cs ++ r ∷ []) es rest → Reaches (links_in F) b r) → (s : ℕ) × HasLink (links_in F) c s × Reaches (links_in F) s r
  next-above c x None cs es r rest row is reach = absurd (front-none cs es r rest is)
  next-above c x (Some b) cs es r rest row is reach = (b, has-next F c x b chain row, reach b is)

  -- each row of a front leads down to its last
  pub front-reach : (a : ℕ) (cs : List ℕ) (es : List (Entry K)) (r : ℕ) (rest : Option ℕ) → IsFront F (Some a) (cs ++ r ∷ []) es rest → Reaches (links_in F) a r
  unfolding IsFront
  front-reach a [] [] r rest is = absurd is
  front-reach a [] (e ∷ es) r rest is = let same : a ≡ r = (let w = is.0 in cc) in subst (Reaches (links_in F) a) same (here a)
  front-reach a (c ∷ cs) [] r rest is = absurd is
  front-reach a (c ∷ cs) (e ∷ es) r rest is =
      let same : a ≡ c = (let w = is.0 in cc) in
      let up = next-above c e.link is.2 cs es r rest is.3 is.4 (λ b front. front-reach b cs es r rest front) in
      subst (λ x. Reaches (links_in F) x r) (sym same) (below c up.0 r up.1 up.2)

  pub front-above : (o : Option ℕ) (cs : List ℕ) (es : List (Entry K)) (r : ℕ) (rest : Option ℕ) → IsFront F o (cs ++ r ∷ []) es rest → (c : ℕ) → 0 < count c cs → (s : ℕ) × HasLink (links_in F) c s × Reaches (links_in F) s r
  unfolding IsFront
  front-above o [] es r rest is c some = absurd (omega (arith, some))
  front-above o (b ∷ cs) [] r rest is c some = absurd is
  front-above o (b ∷ cs) (e ∷ es) r rest is c some = elim (cases_eq c b) as (λ _. (s : ℕ) × HasLink (links_in F) c s × Reaches (links_in F) s r) [
    | inl same ↦
        let up = next-above b e.link is.2 cs es r rest is.3 is.4 (λ a front. front-reach a cs es r rest front) in
        (up.0, subst (λ x. HasLink (links_in F) x up.0) (sym same) up.1, up.2)
    | inr other ↦ front-above is.2 cs es r rest is.4 c (omega (arith, some, count-cons c b cs, test_other c b other))
  ]

  -- the rows of a front name no keys
  pub front-keyless : (o : Option ℕ) (cs : List ℕ) (es : List (Entry K)) (rest : Option ℕ) → IsFront F o cs es rest → (x : ℕ) (k : K) → key_at F x ≡ Some k → count x cs ≡ 0
  unfolding IsFront
  front-keyless o [] es rest is x k keyed = refl
  front-keyless o (c ∷ cs) [] rest is x k keyed = absurd is
  front-keyless o (c ∷ cs) (e ∷ es) rest is x k keyed =
      let other : x ≢ c = λ same. let bad : None ≡ Some k = sym (ap (key_of F) (ap F same ∙ is.3)) ∙ keyed in cc in
      omega (arith, count-cons x c cs, test_other c x (λ same. other (sym same)), test_other x c other, front-keyless is.2 cs es rest is.4 x k keyed)

  -- the rows of smaller keys on a path
  pub front-path : (cmp : K → K → Ordering) (key : K) (own : ℕ → List ℕ) (n m : ℕ) (o : Option ℕ) (cs : List ℕ) (es : List (Entry K)) (rest : Option ℕ) → n ≡ length es + m → AreBelow cmp key es → IsFront F o cs es rest
      → chain_rows cmp F key own n o ≡ cs ++ chain_rows cmp F key own m rest
  unfolding IsFront
  front-path cmp key own n m o [] [] rest fuel smaller is = ap (λ j. chain_rows cmp F key own j o) (omega (arith, fuel)) ∙ ap (chain_rows cmp F key own m) is
  front-path cmp key own n m o [] (e ∷ es) rest fuel smaller is = absurd is
  front-path cmp key own n m o (c ∷ cs) [] rest fuel smaller is = absurd is
  front-path cmp key own zero m o (c ∷ cs) (e ∷ es) rest fuel smaller is = absurd (omega (arith, fuel))
  front-path cmp key own (suc n) m o (c ∷ cs) (e ∷ es) rest fuel smaller is =
      ap (chain_rows cmp F key own (suc n)) is.0
      ∙ chain-row cmp F key own n c
      ∙ ap (λ r. match_ordering r (c ∷ chain_rows cmp F key own n (next_in (F c))) (own c) []) (order-row cmp F key c e is.2 is.3 is.1 ∙ smaller.0)
      ∙ ap (λ p. c ∷ chain_rows cmp F key own n p) (next-row F c e.link is.2 is.3)
      ∙ ap (λ ks. c ∷ ks) (front-path cmp key own n m is.2 cs es rest (omega (arith, fuel)) smaller.1 is.4)

module _ {K : Type 0} (F G : Forms K) (keys : (x : ℕ) (k : K) → key_at F x ≡ Some k → key_at G x ≡ Some k) where
  -- a front whose rows stay
  pub front-stays : (o : Option ℕ) (cs : List ℕ) (es : List (Entry K)) (rest : Option ℕ) → ((c : ℕ) → 0 < count c cs → G c ≡ F c) → IsFront F o cs es rest → IsFront G o cs es rest
  unfolding IsFront
  front-stays o [] [] rest same is = is
  front-stays o [] (e ∷ es) rest same is = absurd is
  front-stays o (c ∷ cs) [] rest same is = absurd is
  front-stays o (c ∷ cs) (e ∷ es) rest same is =
      (is.0, keys e.link e.key is.1, is.2, same c (count-here c cs) ∙ is.3, front-stays is.2 cs es rest (λ b some. same b (count-later b c cs some)) is.4)

  -- a front whose last row leads on to another rest
  pub front-turns : (o : Option ℕ) (cs : List ℕ) (r : ℕ) (es : List (Entry K)) (rest rest' : Option ℕ) → ((c : ℕ) → 0 < count c cs → G c ≡ F c)
      → ((x : ℕ) → F r ≡ Some (node chain (x ∷ option_to_list rest)) → G r ≡ Some (node chain (x ∷ option_to_list rest'))) → IsFront F o (cs ++ r ∷ []) es rest → IsFront G o (cs ++ r ∷ []) es rest'
  unfolding IsFront
  front-turns o [] r [] rest rest' same turned is = absurd is
  front-turns o [] r (e ∷ []) rest rest' same turned is = (is.0, keys e.link e.key is.1, rest', turned e.link (is.3 ∙ ap (λ (p : Option ℕ). Some (node chain (e.link ∷ option_to_list p))) is.4), refl)
  front-turns o [] r (e ∷ d ∷ es) rest rest' same turned is = absurd is.4
  front-turns o (c ∷ cs) r [] rest rest' same turned is = absurd is
  front-turns o (c ∷ cs) r (e ∷ es) rest rest' same turned is =
      (is.0, keys e.link e.key is.1, is.2, same c (count-here c cs) ∙ is.3, front-turns is.2 cs r es rest rest' (λ b some. same b (count-later b c cs some)) turned is.4)

-- a link that was read is the child
pub read-child : (ls ks : List ℕ) (i x : ℕ) → ls ≡ ks → i < length ks → x ≡ get_or ls i x → x ≡ get_or ks i 0
read-child ls ks i x same inside is = sym (get_or_from_slice_get ks i x 0 (slice_get_read ks (length ks) i x refl inside (is ∙ ap (λ ys. get_or ys i x) same)))

-- the second of a row's one or two links
pub second-of : (x : ℕ) (o : Option ℕ) → slice_get (x ∷ option_to_list o) 1 ≡ o
second-of x None = refl
second-of x (Some m) = refl

module _ {T : Type 0} where
  -- an edit of a child that makes more at most
  pub child-more : {row index c n : ℕ} {old new : Heap T} {spent gained : List ℕ} (c' n' : ℕ) → EditsChild row index old new spent gained c n → c ≤ c' → n ≤ n' → EditsChild row index old new spent gained c' n'
  child-more c' n' is few_c few_n = record { changes = Changes-more c' n' is.changes few_c few_n; head = is.head; links = is.links; beside = is.beside }

  -- nothing was made one's own yet
  pub owns-none : (h : Heap T) (row index : ℕ) → IsGraph h → owners_at h row ≡ 1 → index < length (links_at h row) → key_at (form_at h) row ≡ None → OwnsRows h h row index [] row index
  unfolding IsFront
  owns-none h row index graph sole inside keyless = record {
    rows = [];
    own = [];
    was = refl;
    is = refl;
    slot = inl (refl, refl, refl, refl);
    child = record {
      changes = Changes-Unchanged row graph (record {
        rows = λ k. refl;
        holds = λ k. refl;
        count = refl;
        cells = refl;
        nodes = refl;
        live = refl;
        made = refl;
        spare_cells = omega arith;
        spare_nodes = omega arith;
        graph = graph;
      });
      head = refl;
      links = sym (set-get_or (links_at h row) index 0);
      beside = λ i within other m way. refl;
    };
    sole = sole;
    down = path_start;
    gains = record {
      stays = λ l some. some;
      cells = 0;
      nodes = 0;
      makes = record { spare_cells = omega arith; spare_nodes = omega arith; cells = omega arith; nodes = omega arith; live = omega arith; made = grind (arith, graph.few_made); no_fewer = omega arith };
    };
    keyless = keyless;
    left = λ m at x way. refl;
    path = λ rest path' next keep. keep;
    came = λ rest next. omega arith;
    others = λ rest next m live other off. (refl, other, off);
  }

-- the place past the first row of a chain whose front was made one's own: what is above it stays where its row alone is written
module _ {T : Type 0} {old now : Heap T} (new : Heap T) {row index r i : ℕ} {front : List (Entry T)} (inside : index < length (links_at old row)) (o : OwnsRows old now row index front r i)
    (others : (m : ℕ) → m ≢ r → IsSome (row_at now m) → row_at new m ≡ row_at now m) where
  pub inside-now : index < length (links_at now row)
  inside-now = omega (arith, inside, ap length o.child.links, length-set (links_at old row) index (child_at now row index))

  -- the row above the chain
  pub past-row : IsPast now row index o.own r i → row_at new row ≡ row_at now row
  past-row past =
      let linked : HasLink (links_at now) row (child_at now row index) = child-linked now row index inside-now in
      let down : Reaches (links_at now) (child_at now row index) r = IsSolePath-Reaches (owners_at now) (links_at now) (child_at now row index) r past.below in
      others row (λ same. IsGraph-acyclic now o.child.changes.trades.graph row (child_at now row index) linked (subst (Reaches (links_at now) (child_at now row index)) (sym same) down)) (linked_live (row_at now row) (child_at now row index) linked)

  -- and the rows of the front before it
  pub before-same : (before : List ℕ) → o.own ≡ before ++ r ∷ [] → (b : ℕ) → 0 < count b before → form_at new b ≡ form_at now b
  before-same before whole b some =
      let above = front-above (form_at now) (link_in now row index) before front r (link_in now r i) (subst (λ ks. IsFront (form_at now) (link_in now row index) ks front (link_in now r i)) whole o.is) b some in
      let has : HasLink (links_at now) b above.0 = subst (λ ks. 0 < count above.0 ks) (links-form now b) above.1 in
      let way : Reaches (links_at now) above.0 r = Reaches-by (links_in (form_at now)) (links_at now) (λ l. sym (links-form now l)) above.0 r above.2 in
      ap (option_map form_of) (others b (λ at. IsGraph-acyclic now o.child.changes.trades.graph b above.0 has (subst (Reaches (links_at now) above.0) (sym at) way)) (linked_live (row_at now b) above.0 has))

-- the place after the front of a chain was written
module _ {T : Type 0} {old now new : Heap T} {row index r i : ℕ} {front : List (Entry T)} (inside : index < length (links_at old row)) (o : OwnsRows old now row index front r i)
    {spent gained : List ℕ} {c n : ℕ} (change : Changes r now new spent gained c n) (unspent : (u : ℕ) → Reaches (links_at now) u row → count u spent ≡ 0)
    (others : (m : ℕ) → m ≢ r → IsSome (row_at now m) → row_at new m ≡ row_at now m) (rest : Option ℕ)
    (heads : head_of (row_at new r) ≡ head_of (row_at now r)) (at_first : r ≡ row → i ≡ index → (k : ℕ) × (rest ≡ Some k) × (links_at new r ≡ set (links_at now r) i k))
    (at_row : i ≡ 1 → (x : ℕ) → form_at now r ≡ Some (node chain (x ∷ option_to_list (link_in now r i))) → form_at new r ≡ Some (node chain (x ∷ option_to_list rest))) where
  graph_now : IsGraph now
  graph_now = o.child.changes.trades.graph

  first-row-new : r ≡ row → i ≡ index → (head_of (row_at new row) ≡ head_of (row_at now row)) × (k : ℕ) × (rest ≡ Some k) × (links_at new row ≡ set (links_at now row) index k)
  first-row-new same_row same_index =
      let did = at_first same_row same_index in
      let links : links_at new row ≡ set (links_at now row) i did.0 = subst (λ x. links_at new x ≡ set (links_at now x) i did.0) same_row did.2 in
      (subst (λ x. head_of (row_at new x) ≡ head_of (row_at now x)) same_row heads, did.0, did.1, links ∙ ap (λ j. set (links_at now row) j did.0) same_index)

  first-child : (o.own ≡ []) × (now ≡ old) × (r ≡ row) × (i ≡ index) → EditsChild row index old new spent gained c (length front + n)
  first-child at =
      let did = first-row-new at.2 at.3 in
      let was : child_at new row index ≡ did.1 = ap (λ ks. get_or ks index 0) did.3 ∙ get_or-set_same (links_at now row) index did.1 0 (inside-now new inside o others) in
      let base : EditsChild row index now new spent gained c n = record {
        changes = subst (λ x. Changes x now new spent gained c n) at.2 change;
        head = did.0;
        links = did.3 ∙ ap (set (links_at now row) index) (sym was);
        beside = λ j within other m way.
            let has = child-linked now row j within in
            others m (λ same. IsGraph-acyclic now graph_now row (child_at now row j) has (subst (Reaches (links_at now) (child_at now row j)) (same ∙ at.2) way)) (Reaches-live now graph_now (child_at now row j) m way (graph_now.closed row (child_at now row j) has));
      } in
      child-more c (length front + n) (subst (λ h. EditsChild row index h new spent gained c n) at.1 base) (omega arith) (omega arith)

  pub written-child : EditsChild row index old new spent gained c (length front + n)
  written-child = elim o.slot as (λ _. EditsChild row index old new spent gained c (length front + n)) [
    | inl at ↦ first-child at
    | inr past ↦
        let both = child-then old now new row index (child_at now row index) spent gained 0 (length front) c n graph_now inside o.child refl past.sole (Changes-path past.below change) unspent in
        child-more c (length front + n) both (omega arith) (omega arith)
  ]

  pub written-front : IsFront (form_at new) (link_in new row index) o.own front rest
  unfolding IsFront
  written-front = elim o.slot as (λ _. IsFront (form_at new) (link_in new row index) o.own front rest) [
    | inl at ↦ by_none front (subst (λ ks. IsFront (form_at now) (link_in now row index) ks front (link_in now r i)) at.0 o.is) at
    | inr past ↦
        let keys = keys-stay now new r o.keyless others in
        let is : IsFront (form_at now) (link_in now row index) (past.before ++ r ∷ []) front (link_in now r i) = subst (λ ks. IsFront (form_at now) (link_in now row index) ks front (link_in now r i)) past.last o.is in
        let turned = front-turns (form_at now) (form_at new) keys (link_in now row index) past.before r front (link_in now r i) rest (before-same new inside o others past.before past.last) (at_row past.second) is in
        subst (λ p. IsFront (form_at new) p o.own front rest) (sym (ap (λ w. slice_get (links_of w) index) (past-row new inside o others past))) (subst (λ ks. IsFront (form_at new) (link_in now row index) ks front rest) (sym past.last) turned)
  ]
    where
      by_none : (es : List (Entry T)) → IsFront (form_at now) (link_in now row index) [] es (link_in now r i) → (o.own ≡ []) × (now ≡ old) × (r ≡ row) × (i ≡ index) → IsFront (form_at new) (link_in new row index) o.own es rest
      by_none [] is at =
          let did = first-row-new at.2 at.3 in
          let there : link_in new row index ≡ rest =
          ap (λ ks. slice_get ks index) did.3 ∙ slice_get-get_or (set (links_at now row) index did.1) index 0 (omega (arith, inside-now new inside o others, length-set (links_at now row) index did.1)) ∙ ap Some (get_or-set_same (links_at now row) index did.1 0 (inside-now new inside o others)) ∙ sym did.2 in
          subst (λ ks. IsFront (form_at new) (link_in new row index) ks [] rest) (sym at.0) there
      by_none (e ∷ es) is at = absurd is

-- one row more was made one's own
module _ {T : Type 0} (old now new : Heap T) (row index r i k : ℕ) (front : List (Entry T)) (e : Entry T) (next : Option ℕ) (graph : IsGraph old) (inside : index < length (links_at old row)) (o : OwnsRows old now row index front r i)
    (own : OwnsChild now new r i k) (form_old : form_at old (child_at now r i) ≡ Some (node chain (e.link ∷ option_to_list next))) (key_old : IsEntry (form_at old) e) where
  graph_mid : IsGraph now
  graph_mid = o.child.changes.trades.graph

  at_slot : link_in now r i ≡ Some (child_at now r i)
  at_slot = slice_get-get_or (links_at now r) i 0 own.inside

  others-own : (s : ℕ) → s ≢ r → IsSome (row_at now s) → row_at new s ≡ row_at now s
  others-own s other live = own.stays s other live

  first-own : r ≡ row → i ≡ index → (b : ℕ) × (Some k ≡ Some b) × (links_at new r ≡ set (links_at now r) i b)
  first-own same_row same_index = (k, refl, own.links)

  row-own : i ≡ 1 → (x : ℕ) → form_at now r ≡ Some (node chain (x ∷ option_to_list (link_in now r i))) → form_at new r ≡ Some (node chain (x ∷ option_to_list (Some k)))
  row-own second x was =
      let links : links_at now r ≡ x ∷ child_at now r i ∷ [] = sym (links-form now r) ∙ ap links_of was ∙ ap (λ p. x ∷ option_to_list p) at_slot in
      row-form (row_at new r) (row_at now r) chain _ (x ∷ k ∷ []) own.head (own.links ∙ ap (λ ks. set ks i k) links ∙ ap (λ j. set (x ∷ child_at now r i ∷ []) j k) second) was

  form : form_at now (child_at now r i) ≡ Some (node chain (e.link ∷ option_to_list next))
  form = ap (option_map form_of) (o.left (child_at now r i) at_slot (child_at now r i) (here (child_at now r i))) ∙ form_old

  keyed : IsEntry (form_at now) e
  keyed =
      let same = SameBelow-link (links_in (form_at old)) (form_at old) (form_at now) (child_at now r i) e.link (has-first (form_at old) (child_at now r i) e.link chain (option_to_list next) form_old) (forms-below old now (child_at now r i) (o.left (child_at now r i) at_slot)) in
      key-stays (form_at old) (form_at now) e.link same e.link e.key (here e.link) key_old

  form_new : form_at new k ≡ Some (node chain (e.link ∷ option_to_list next))
  form_new = ap (option_map form_of) own.row ∙ form

  next-there : link_in new k 1 ≡ next
  next-there = ap (λ ks. slice_get ks 1) (sym (links-form new k) ∙ ap links_of form_new) ∙ second-of e.link next

  child-own : EditsChild row index old new [] [] 0 (length front + 1)
  child-own = written-child inside o own.changes (λ u up. refl) others-own (Some k) own.head first-own row-own

  front-own : IsFront (form_at new) (link_in new row index) o.own front (Some k)
  front-own = written-front inside o own.changes (λ u up. refl) others-own (Some k) own.head first-own row-own

  key-new : IsEntry (form_at new) e
  key-new = keys-stay now new r o.keyless others-own e.link e.key keyed

  linked : HasLink (links_at new) r k
  linked = own-linked now new r i k own

  past-own : IsPast new row index (o.own ++ k ∷ []) k 1
  past-own = elim o.slot as (λ _. IsPast new row index (o.own ++ k ∷ []) k 1) [
    | inl at ↦
        let there : child_at new row index ≡ k = ap (λ x. get_or (links_at new x) index 0) (sym at.2) ∙ ap (λ j. get_or (links_at new r) j 0) (sym at.3) ∙ own-there now new r i k own in
        record { before = o.own; last = refl; second = refl; sole = ap (owners_at new) there ∙ own.sole; below = subst (λ x. OwnsDown new x k) (sym there) path_start }
    | inr past ↦
        let stays : row_at new row ≡ row_at now row = past-row new inside o others-own past in
        let there : child_at new row index ≡ child_at now row index = ap (λ w. get_or (links_of w) index 0) stays in
        let down : Reaches (links_at now) (child_at now row index) r = IsSolePath-Reaches (owners_at now) (links_at now) (child_at now row index) r past.below in
        let path : OwnsDown new (child_at now row index) r = KeepsPaths-owned own.changes.paths (child_at now row index) r (here r) past.below in
        record {
          before = o.own;
          last = refl;
          second = refl;
          sole = ap (owners_at new) there ∙ own.changes.paths.soles (child_at now row index) down past.sole;
          below = subst (λ x. OwnsDown new x k) (sym there) (path_then r k path linked own.sole);
        }
  ]

  below-next : (b : ℕ) → next ≡ Some b → HasLink (links_at now) (child_at now r i) b
  below-next b at = subst (λ ks. 0 < count b ks) (links-form now (child_at now r i)) (has-next (form_at now) (child_at now r i) e.link b chain (form ∙ ap (λ p. Some (node chain (e.link ∷ option_to_list p))) at))

  below-old : (b : ℕ) → next ≡ Some b → HasLink (links_at old) (child_at now r i) b
  below-old b at = subst (λ ks. 0 < count b ks) (links-form old (child_at now r i)) (has-next (form_at old) (child_at now r i) e.link b chain (form_old ∙ ap (λ p. Some (node chain (e.link ∷ option_to_list p))) at))

  -- what comes next is a link of the row itself
  before-own : (rest : List ℕ) → (0 < length rest → HasLink (links_at new) k (get_or rest 0 0)) → 1 ≤ length rest → HasLink (links_at now) (child_at now r i) (get_or rest 0 0)
  before-own rest link some = subst (λ ks. 0 < count (get_or rest 0 0) ks) (ap links_of own.row) (link some)

  pub owns-more : OwnsRows old new row index (front ++ e ∷ []) k 1
  owns-more = record {
    rows = o.rows ++ child_at now r i ∷ [];
    own = o.own ++ k ∷ [];
    was = subst (IsFront (form_at old) (link_in old row index) (o.rows ++ child_at now r i ∷ []) (front ++ e ∷ [])) (sym next-there)
        (front-push (form_at old) (link_in old row index) o.rows front (child_at now r i) e next (subst (IsFront (form_at old) (link_in old row index) o.rows front) at_slot o.was) form_old key_old);
    is = subst (IsFront (form_at new) (link_in new row index) (o.own ++ k ∷ []) (front ++ e ∷ [])) (sym next-there) (front-push (form_at new) (link_in new row index) o.own front k e next front-own form_new key-new);
    slot = inr past-own;
    child = child-more 0 (length (front ++ e ∷ [])) child-own (omega arith) (omega (arith, length-append front (e ∷ [])));
    sole = own.sole;
    down = path_then r k (KeepsPaths-owned own.changes.paths row r (here r) o.down) linked own.sole;
    gains = Gains-trans o.gains (gains-child now new r i k own);
    keyless = ap (key_of (form_at new)) form_new;
    left = λ b at.
        let is : next ≡ Some b = sym next-there ∙ at in
        KeepsBelow-trans old now new b (SameBelow-link (links_at old) (row_at old) (row_at now) (child_at now r i) b (below-old b is) (o.left (child_at now r i) at_slot))
        (SameBelow-link (links_at now) (row_at now) (row_at new) (child_at now r i) b (below-next b is) (own-beneath now new r i k graph_mid own));
    path = λ rest path' link keep.
        let tail = KeepsAlone-own now new (child_at now r i) k rest own.same own.sole own.owners graph_mid (before-own rest link) (k ∷ path') (KeepsAlone-cons new k rest path' own.sole keep) in
        let whole = o.path (child_at now r i ∷ rest) (k ∷ path') (λ some. child-linked now r i own.inside) tail in
        rw (append_assoc o.rows (child_at now r i ∷ []) rest, append_assoc o.own (k ∷ []) path') whole;
    came = λ rest link.
        let before = o.came (child_at now r i ∷ rest) (λ some. child-linked now r i own.inside) in
        let copied = alone-own now new (child_at now r i) k rest own.same own.sole own.owners graph_mid (before-own rest link) in
        omega (arith, before, copied, alone-yes new k rest own.sole, own.makes.live, length-append o.rows (child_at now r i ∷ []), ap (alone old) (append_assoc o.rows (child_at now r i ∷ []) rest));
    others = λ rest link s live other off.
        let off' : count s (written old (o.rows ++ child_at now r i ∷ rest)) ≡ 0 = subst (λ ks. count s (written old ks) ≡ 0) (append_assoc o.rows (child_at now r i ∷ []) rest) off in
        let before = o.others (child_at now r i ∷ rest) (λ some. child-linked now r i own.inside) s live other off' in
        let live_now : IsSome (row_at now s) = subst IsSome (sym before.0) live in
        let fresh : k ≢ child_at now r i → s ≢ k = λ copy same. none-live (row_at now s) (ap (row_at now) same ∙ own.fresh copy) live_now in
        let after = written-own now new (child_at now r i) k rest own.same own.sole own.owners graph_mid (before-own rest link) s fresh before.2 in
        let ends = off-first new k s rest own.sole after in
        (own.stays s before.1 live_now ∙ before.0, ends.0, ends.1);
  }

-- the row at the place after the front
module _ {T : Type 0} (old now : Heap T) (row index r i : ℕ) where
  pub record IsNext (n : ℕ) (es : List (Entry T)) : Type 0 where
    pub entry : Entry T
    pub next : Option ℕ
    pub inside : i < length (links_at now r)
    pub more : take (n + 1) es ≡ take n es ++ entry ∷ []
    pub form : form_at now (child_at now r i) ≡ Some (node chain (entry.link ∷ option_to_list next))
    pub form_old : form_at old (child_at now r i) ≡ Some (node chain (entry.link ∷ option_to_list next))
    pub key_old : IsEntry (form_at old) entry

  pub row-there : (n : ℕ) (es : List (Entry T)) → index < length (links_at old row) → n < length es → OwnsRows old now row index (take n es) r i → AreChainRows (form_at old) (Some (child_at old row index)) es → IsNext n es
  row-there n es inside less o rows =
      let there : link_in old row index ≡ Some (child_at old row index) = slice_get-get_or (links_at old row) index 0 inside in
      let whole : AreChainRows (form_at old) (link_in old row index) (take n es ++ drop n es) = subst (λ p. AreChainRows (form_at old) p (take n es ++ drop n es)) (sym there) (subst (AreChainRows (form_at old) (Some (child_at old row index))) (sym (take-append-drop n es)) rows) in
      by_rest (drop n es) refl (link_in now r i) refl (front-rest (form_at old) (link_in old row index) o.rows (take n es) (link_in now r i) (drop n es) o.was whole)
    where
      split : (m : ℕ) (ds : List (Entry T)) (x : Entry T) (xs : List (Entry T)) → drop m ds ≡ x ∷ xs → take (suc m) ds ≡ take m ds ++ x ∷ []
      split zero [] x xs is = absurd (let bad : [] ≡ x ∷ xs = is in cc)
      split (suc m) [] x xs is = absurd (let bad : [] ≡ x ∷ xs = is in cc)
      split zero (d ∷ ds) x xs is = let same : d ≡ x = cc in ap (λ y. y ∷ []) same
      split (suc m) (d ∷ ds) x xs is = ap (λ ys. d ∷ ys) (split m ds x xs is)

      by_rest : (ts : List (Entry T)) → drop n es ≡ ts → (p : Option ℕ) → link_in now r i ≡ p → AreChainRows (form_at old) p ts → IsNext n es
      by_rest [] is p at chained = absurd (omega (arith, less, length-drop n es, ap length is))
      by_rest (t ∷ ts) is None at chained = absurd (let bad = rows-none (form_at old) (t ∷ ts) chained in cc)
      by_rest (t ∷ ts) is (Some m) at chained =
          let first = first-row (form_at old) m (t ∷ ts) chained in
          let child : child_at now r i ≡ m = get_or_from_slice_get (links_at now r) i m 0 at in
          let form_old : form_at old (child_at now r i) ≡ Some (node chain (first.first.link ∷ option_to_list first.next)) = ap (form_at old) child ∙ first.row in
          record {
            entry = first.first;
            next = first.next;
            inside = slice_get_within (links_at now r) i m at;
            more = (let next_one : n + 1 ≡ suc n = omega arith in ap (λ (j : ℕ). take j es) next_one) ∙ split n es first.first first.others (is ∙ first.whole);
            form = ap (option_map form_of) (ap (row_at now) child ∙ o.left m at m (here m)) ∙ first.row;
            form_old = form_old;
            key_old = first.key;
          }
