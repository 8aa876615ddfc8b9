-- The walk over a trie's entries.
use Rattle.std.proofs.Common.{◌≡◌, ◌≢◌, ℕ, zero, suc, ◌+◌, ◌<◌, ◌≤◌, List, [], ◌∷◌, ◌++◌, length, drop, get_or, map, refl, ap, sym, subst, ◌∙◌, arith, cond, true, false, Bool, inl, inr, ◌⊎◌, append_assoc, append-nil, length-append, length-drop, Option, Some, None, IsSome, is_some, set, get_or-set_other, eq-eqb}
use Rattle.std.specs.Prelude.{option_to_list, count_ones, count_by, nat_eq, not}
use Rattle.std.specs.List.{All, flat_map, filter}
use Rattle.std.specs.Cmp.{IsTotalOrder, tied_itself}
use Rattle.std.specs.Ordering.{is_eq}
use Rattle.elem_core.specs.Codes.{digit_at}
use Rattle.std.proofs.lemmas.Bool.{cases_Bool}
use Rattle.std.proofs.lemmas.List.{get_or-drop}
use Rattle.std.proofs.lemmas.List.Concat.{flat_map-append}
use Rattle.std.proofs.lemmas.List.Sums.{sum_by-set}
use Rattle.std.proofs.lemmas.List.Filters.{length-filter_both}
use Rattle.std.proofs.lemmas.List.Elements.{All-head, All-tail, All-from_get_or}
use Rattle.std.specs.declared.cmp.Ordering.{Ordering}
use Rattle.elem_core.specs.declared.codes.TheConstants.{LEVELS}
use Rattle.node_heap.specs.Forms.{Form, Forms, cell, node, leaf, inner, trie, chain, pair, state, links_of, head_of}
use Rattle.node_heap.specs.Heap.{Heap, form_at, live_count}
use Rattle.champ_chain.specs.Entry.{Entry, entry, key_at, has_key, IsEntry, AreDistinct, SameSet, same_none, same_through}
use Rattle.champ_chain.specs.Chain.{AreChainRows}
use Rattle.champ_chain.proofs.SetLemmas.{same-refl, same-sym, same-length, count-cons, Among, same-among}
use Rattle.champ_chain.proofs.CopyLemmas.{key-live}
use Rattle.champ_chain.proofs.SpotLemmas.{FirstRow, first-row}
use Rattle.champ_trie.specs.Bits.{has, rank}
use Rattle.champ_trie.specs.Trie.{IsRow, IsPlace, IsTrie, IsTrieRow, IsCanon, place_of, part}
use Rattle.champ_trie.specs.Walk.{entry_count, own_entries, rows_below, rows_from, entries_of}
use Rattle.champ_trie.specs.Stack.{IsWalkRow, IsChainRest, IsLayer, IsStack, next_first, stacked}
use Rattle.champ_trie.specs.declared.place.Place.{Place}
use Rattle.champ_trie.specs.declared.place.Place.TheVariants.{Entry as At, Node, Empty}
use Rattle.champ_trie.proofs.BitLemmas.{rank-onto, count-rank}
use Rattle.champ_trie.proofs.PlaceLemmas.{place-node}
use Rattle.champ_trie.proofs.GatherLemmas.{gather, gather-set, gather-both, flat_map-gather, map-gather, same-map, entry_links, node_links, entries-gather, nodes-gather, parts-whole}

-- a row's kind tells how many of its links are entries
module _ {K : Type 0} where
  pub kind-trie : (r : Option (Form K)) (d e n : ℕ) → head_of r ≡ Some (trie d e n) → IsWalkRow r → count_ones e ≡ entry_count r
  kind-trie None d e n is walk = absurd walk
  kind-trie (Some (cell x)) d e n is walk = absurd walk
  kind-trie (Some (node leaf links)) d e n is walk = absurd walk
  kind-trie (Some (node (inner height) links)) d e n is walk = absurd walk
  kind-trie (Some (node (trie d' e' n') links)) d e n is walk = (let at : e' ≡ e = cc in ap count_ones (sym at) ∙ count-rank e' walk.entries_small)
  kind-trie (Some (node chain links)) d e n is walk = cc
  kind-trie (Some (node pair links)) d e n is walk = absurd walk
  kind-trie (Some (node state links)) d e n is walk = absurd walk

module _ {K : Type 0} where
  pub count-fits : (r : Option (Form K)) → IsWalkRow r → entry_count r ≤ length (links_of r)
  count-fits None walk = absurd walk
  count-fits (Some (cell x)) walk = absurd walk
  count-fits (Some (node leaf links)) walk = absurd walk
  count-fits (Some (node (inner height) links)) walk = absurd walk
  count-fits (Some (node (trie d e n) links)) walk = omega (arith, walk.count)
  count-fits (Some (node chain links)) walk = walk
  count-fits (Some (node pair links)) walk = absurd walk
  count-fits (Some (node state links)) walk = absurd walk

  -- what a chain row has
  chain-own : (F : Forms K) (l x : ℕ) (xs : List ℕ) → F l ≡ Some (node chain (x ∷ xs)) → own_entries (F l) ≡ x ∷ []
  chain-own F l x xs row = ap own_entries row

  chain-below : (F : Forms K) (l x : ℕ) (xs : List ℕ) → F l ≡ Some (node chain (x ∷ xs)) → rows_below (F l) ≡ xs
  chain-below F l x xs row = ap rows_below row

  chain-walk : (F : Forms K) (l x : ℕ) (xs : List ℕ) → F l ≡ Some (node chain (x ∷ xs)) → IsWalkRow (F l)
  chain-walk F l x xs row = subst IsWalkRow (sym row) (omega arith)

  no-rows : (F : Forms K) → AreChainRows F None []
  unfolding AreChainRows
  no-rows F = refl

  -- the same rows however deep one may go, if it is deep enough
  rest-same : (F : Forms K) (es : List (Entry K)) (next : Option ℕ) → AreChainRows F next es → (a b : ℕ) → length es ≤ a → length es ≤ b → flat_map (rows_from a F) (option_to_list next) ≡ flat_map (rows_from b F) (option_to_list next)
  unfolding AreChainRows rows_from
  rest-same F [] next rows a b x y = subst (λ n. flat_map (rows_from a F) (option_to_list n) ≡ flat_map (rows_from b F) (option_to_list n)) (sym rows) refl
  rest-same F (e ∷ es) next rows zero b x y = absurd (omega arith)
  rest-same F (e ∷ es) next rows (suc a) zero x y = absurd (omega arith)
  rest-same F (e ∷ es) next rows (suc a) (suc b) x y =
      let below = chain-below F rows.link e.link (option_to_list rows.next) rows.row in
      let rest = rest-same F es rows.next rows.rest a b (omega arith) (omega arith) in
      let same = ap (flat_map (rows_from a F)) below ∙ rest ∙ ap (flat_map (rows_from b F)) (sym below) in
      subst (λ n. flat_map (rows_from (suc a) F) (option_to_list n) ≡ flat_map (rows_from (suc b) F) (option_to_list n)) (sym rows.here) (ap (λ xs. rows.link ∷ (xs ++ [])) same)

  -- the entries of a chain
  rest-entries : (F : Forms K) (es : List (Entry K)) (next : Option ℕ) → AreChainRows F next es → (a : ℕ) → length es ≤ a → entries_of F (flat_map (rows_from a F) (option_to_list next)) ≡ map (λ e. e.link) es
  unfolding AreChainRows rows_from
  rest-entries F [] next rows a x = subst (λ n. entries_of F (flat_map (rows_from a F) (option_to_list n)) ≡ []) (sym rows) refl
  rest-entries F (e ∷ es) next rows zero x = absurd (omega arith)
  rest-entries F (e ∷ es) next rows (suc a) x =
      let own = chain-own F rows.link e.link (option_to_list rows.next) rows.row in
      let below = chain-below F rows.link e.link (option_to_list rows.next) rows.row in
      let rest = rest-entries F es rows.next rows.rest a (omega arith) in
      let all : flat_map (rows_from a F) (rows_below (F rows.link)) ++ [] ≡ flat_map (rows_from a F) (option_to_list rows.next) = append-nil _ ∙ ap (flat_map (rows_from a F)) below in
      subst (λ n. entries_of F (flat_map (rows_from (suc a) F) (option_to_list n)) ≡ e.link ∷ map (λ e. e.link) es) (sym rows.here)
      (ap (λ xs. own_entries (F rows.link) ++ entries_of F xs) all ∙ ap (λ ys. ys ++ entries_of F (flat_map (rows_from a F) (option_to_list rows.next))) own ∙ ap (λ ys. e.link ∷ ys) rest)

module _ {K : Type 0} (F : Forms K) where
  -- the first row of a layer
  pub record Step (m l : ℕ) (ls : List ℕ) : Type 0 where
    pub row : IsWalkRow (F l)
    pub level : ℕ
    pub below : IsLayer F level (rows_below (F l))
    pub others : IsLayer F m ls
    pub lower : level ≤ m
    pub less : 1 ≤ length ls → level + 1 ≤ m

  pub layer-step : (m l : ℕ) (ls : List ℕ) → IsLayer F m (l ∷ ls) → Step m l ls
  unfolding IsLayer
  layer-step zero l ls rest = by_next rest.next rest.list rest.chain
    where
      by_rows : (k : ℕ) → l ≡ k → ls ≡ [] → FirstRow F k rest.entries → Step zero l ls
      by_rows k same none at =
          let row : F l ≡ Some (node chain (at.first.link ∷ option_to_list at.next)) = ap F same ∙ at.row in
          record {
            row = chain-walk F l at.first.link (option_to_list at.next) row;
            level = zero;
            below = record { next = at.next; entries = at.others; list = chain-below F l at.first.link (option_to_list at.next) row; chain = at.rows };
            others = record { next = None; entries = []; list = none; chain = no-rows F };
            lower = omega arith;
            less = λ some. absurd (omega (arith, some, ap length none));
          }

      by_next : (next : Option ℕ) → l ∷ ls ≡ option_to_list next → AreChainRows F next rest.entries → Step zero l ls
      by_next None list rows = absurd cc
      by_next (Some k) list rows = (let same : l ≡ k = cc in let none : ls ≡ [] = cc in by_rows k same none (first-row F k rest.entries rows))
  layer-step (suc m) l ls all =
      let here = All-head (λ l. IsWalkRow (F l) × IsLayer F m (rows_below (F l))) l ls all in
      record {
        row = here.0;
        level = m;
        below = here.1;
        others = All-tail (λ l. IsWalkRow (F l) × IsLayer F m (rows_below (F l))) l ls all;
        lower = omega arith;
        less = λ some. omega arith;
      }

  -- the list that was put on last
  pub record Last (a : ℕ) (stack : List (List ℕ)) (rows : List ℕ) : Type 0 where
    pub level : ℕ
    pub room : level + length stack + 1 ≤ a
    pub some : 1 ≤ length rows
    pub layer : IsLayer F level rows
    pub others : IsStack F a stack

  pub stack-last : (a : ℕ) (stack : List (List ℕ)) (rows : List ℕ) → IsStack F a (stack ++ rows ∷ []) → Last a stack rows
  unfolding IsStack
  stack-last zero [] rows is = absurd is
  stack-last (suc a) [] rows is = record { level = is.0; room = omega (arith, is.1); some = is.2; layer = is.3; others = tt }
  stack-last zero (first ∷ stack) rows is = absurd is
  stack-last (suc a) (first ∷ stack) rows is =
      let last = stack-last a stack rows is.4 in
      record { level = last.level; room = omega (arith, last.room); some = last.some; layer = last.layer; others = (is.0, is.1, is.2, is.3, last.others) }

  pub stack-push : (a : ℕ) (stack : List (List ℕ)) (rows : List ℕ) (m : ℕ) → m + length stack + 1 ≤ a → 1 ≤ length rows → IsLayer F m rows → IsStack F a stack → IsStack F a (stack ++ rows ∷ [])
  unfolding IsStack
  stack-push zero stack rows m room some layer is = absurd (omega arith)
  stack-push (suc a) [] rows m room some layer is = (m, omega arith, some, layer, tt)
  stack-push (suc a) (first ∷ stack) rows m room some layer is = (is.0, is.1, is.2, is.3, stack-push a stack rows m (omega (arith, room)) some layer is.4)

  pub stack-more : (a : ℕ) (stack : List (List ℕ)) (rows : List ℕ) (m : ℕ) → (1 ≤ length rows → m + length stack + 1 ≤ a) → IsLayer F m rows → IsStack F a stack → IsStack F a (stacked stack rows)
  stack-more a stack [] m room layer is = is
  stack-more a stack (l ∷ ls) m room layer is = stack-push a stack (l ∷ ls) m (room (omega arith)) (omega arith) layer is

  pub stack-start : (a m : ℕ) (rows : List ℕ) → m + 1 ≤ a → IsLayer F m rows → IsStack F a (stacked [] rows)
  unfolding IsStack
  stack-start a m rows room layer = stack-more a [] rows m (λ some. omega (arith, room)) layer tt

  first-push : (stack : List (List ℕ)) (rows : List ℕ) → next_first (stack ++ rows ∷ []) ≡ rows ++ next_first stack
  first-push [] rows = sym (append-nil rows)
  first-push (first ∷ stack) rows = ap (λ xs. xs ++ first) (first-push stack rows) ∙ append_assoc rows (next_first stack) first

  first-stacked : (stack : List (List ℕ)) (rows : List ℕ) → next_first (stacked stack rows) ≡ rows ++ next_first stack
  first-stacked stack [] = refl
  first-stacked stack (l ∷ ls) = first-push stack (l ∷ ls)

  stacked-length : (stack : List (List ℕ)) (rows : List ℕ) → length (stacked stack rows) ≤ length stack + 1
  stacked-length stack [] = omega arith
  stacked-length stack (l ∷ ls) = omega (arith, length-append stack ((l ∷ ls) ∷ []))

  stacked-none : (stack : List (List ℕ)) (rows : List ℕ) → length rows ≡ 0 → stacked stack rows ≡ stack
  stacked-none stack [] none = refl
  stacked-none stack (l ∷ ls) none = absurd (omega arith)

  -- what the walk does at the next row
  pub record Goes (a : ℕ) (stack : List (List ℕ)) (l : ℕ) (ls : List ℕ) : Type 0 where
    pub row : IsWalkRow (F l)
    pub room : 0 < length ls → length stack < a
    pub room_below : 0 < length (rows_below (F l)) → length (stacked stack ls) < a
    pub left : IsStack F a (stacked (stacked stack ls) (rows_below (F l)))
    pub level : ℕ
    pub low : level + 1 ≤ a
    pub below : IsLayer F level (rows_below (F l))

  pub stack-goes : (a : ℕ) (stack : List (List ℕ)) (l : ℕ) (ls : List ℕ) → IsStack F a (stack ++ (l ∷ ls) ∷ []) → Goes a stack l ls
  stack-goes a stack l ls is =
      let last = stack-last a stack (l ∷ ls) is in
      let step = layer-step last.level l ls last.layer in
      let kept = stack-more a stack ls last.level (λ some. last.room) step.others last.others in
      let room = room-below last step in
      record {
        row = step.row;
        room = λ some. omega (arith, last.room);
        room_below = λ some. omega (arith, room);
        left = stack-more a (stacked stack ls) (rows_below (F l)) step.level (λ some. room) step.below kept;
        level = step.level;
        low = omega (arith, last.room, step.lower);
        below = step.below;
      }
    where
      room-below : (last : Last a stack (l ∷ ls)) (step : Step last.level l ls) → step.level + length (stacked stack ls) + 1 ≤ a
      room-below last step = elim (some-or-none ls) [
        | inl none ↦ omega (arith, ap (λ (xs : List (List ℕ)). length xs) (stacked-none stack ls none), last.room, step.lower)
        | inr some ↦ omega (arith, stacked-length stack ls, last.room, step.less some)
      ]
        where
          some-or-none : (xs : List ℕ) → (length xs ≡ 0) ⊎ (1 ≤ length xs)
          some-or-none [] = inl refl
          some-or-none (x ∷ xs) = inr (omega arith)

module _ {K : Type 0} (F : Forms K) (n : ℕ) (short : (next : Option ℕ) (es : List (Entry K)) → AreChainRows F next es → length es ≤ n) where
  pub layer-same : (m : ℕ) (rows : List ℕ) → IsLayer F m rows → (a b : ℕ) → m + n ≤ a → m + n ≤ b → flat_map (rows_from a F) rows ≡ flat_map (rows_from b F) rows
  unfolding IsLayer rows_from
  layer-same zero rows rest a b x y =
      let few = short rest.next rest.entries rest.chain in
      subst (λ r. flat_map (rows_from a F) r ≡ flat_map (rows_from b F) r) (sym rest.list) (rest-same F rest.entries rest.next rest.chain a b (omega (arith, few)) (omega (arith, few)))
  layer-same (suc m) rows all zero b x y = absurd (omega arith)
  layer-same (suc m) rows all (suc a) zero x y = absurd (omega arith)
  layer-same (suc m) rows all (suc a) (suc b) x y = each (λ below layer. layer-same m below layer a b (omega arith) (omega arith)) rows all
    where
      each : ((below : List ℕ) → IsLayer F m below → flat_map (rows_from a F) below ≡ flat_map (rows_from b F) below) → (rows : List ℕ) → All (λ l. IsWalkRow (F l) × IsLayer F m (rows_below (F l))) rows
          → flat_map (rows_from (suc a) F) rows ≡ flat_map (rows_from (suc b) F) rows
      each again [] all = refl
      each again (l ∷ ls) all =
          let here = All-head (λ l. IsWalkRow (F l) × IsLayer F m (rows_below (F l))) l ls all in
          ap (λ xs. (l ∷ xs) ++ flat_map (rows_from (suc a) F) ls) (again (rows_below (F l)) here.1)
          ∙ ap (λ ys. (l ∷ flat_map (rows_from b F) (rows_below (F l))) ++ ys) (each again ls (All-tail (λ l. IsWalkRow (F l) × IsLayer F m (rows_below (F l))) l ls all))

  -- the rows from a row on are the row and those from the rows below it on
  pub rows-step : (m l : ℕ) → IsLayer F m (rows_below (F l)) → (a : ℕ) → m + n + 1 ≤ a → rows_from a F l ≡ l ∷ flat_map (rows_from a F) (rows_below (F l))
  unfolding rows_from
  rows-step m l below zero enough = absurd (omega arith)
  rows-step m l below (suc a) enough = ap (λ xs. l ∷ xs) (layer-same m (rows_below (F l)) below a (suc a) (omega arith) (omega arith))

  -- the rows from a root on
  pub start-order : (m N l : ℕ) → m + n + 1 ≤ N → IsLayer F m (rows_below (F l)) → l ∷ flat_map (rows_from N F) (next_first (stacked [] (rows_below (F l)))) ≡ rows_from N F l
  start-order m N l enough layer = ap (λ xs. l ∷ flat_map (rows_from N F) xs) (first-stacked F [] (rows_below (F l)) ∙ append-nil _) ∙ sym (rows-step m l layer N enough)

  -- the rows that are left once the next one has been walked
  pub stack-order : (a N : ℕ) (stack : List (List ℕ)) (l : ℕ) (ls : List ℕ) → a + n ≤ N → Goes F a stack l ls
      → flat_map (rows_from N F) (next_first (stack ++ (l ∷ ls) ∷ [])) ≡ l ∷ flat_map (rows_from N F) (next_first (stacked (stacked stack ls) (rows_below (F l))))
  stack-order a N stack l ls enough goes =
      let f : ℕ → List ℕ = rows_from N F in
      ap (flat_map f) (first-push F stack (l ∷ ls))
      ∙ ap (λ xs. xs ++ flat_map f (ls ++ next_first stack)) (rows-step goes.level l goes.below N (omega (arith, goes.low)))
      ∙ ap (λ xs. l ∷ (flat_map f (rows_below (F l)) ++ flat_map f xs)) (sym (first-stacked F stack ls))
      ∙ ap (λ xs. l ∷ xs) (sym (flat_map-append f (rows_below (F l)) (next_first (stacked stack ls))))
      ∙ ap (λ xs. l ∷ flat_map f xs) (sym (first-stacked F (stacked stack ls) (rows_below (F l))))

module _ {K : Type 0} (cmp : K → K → Ordering) (code : K → ℕ) (F : Forms K) where
  entries-under : (F : Forms K) (a : ℕ) (ks : List ℕ) → entries_of F (flat_map (rows_from a F) ks) ≡ flat_map (λ k. entries_of F (rows_from a F k)) ks
  entries-under F a [] = refl
  entries-under F a (k ∷ ks) = flat_map-append (λ l. own_entries (F l)) (rows_from a F k) (flat_map (rows_from a F) ks) ∙ ap (λ ls. entries_of F (rows_from a F k) ++ ls) (entries-under F a ks)

  -- the entries from a trie row on
  entries-row : (F : Forms K) (a l depth e n : ℕ) (ls : List ℕ) → IsRow F l depth e n ls
      → entries_of F (l ∷ flat_map (rows_from a F) (rows_below (F l))) ≡ gather (λ p. entry_links (place_of e n ls p)) 32 ++ gather (λ p. flat_map (λ k. entries_of F (rows_from a F k)) (node_links (place_of e n ls p))) 32
  entries-row F a l depth e n ls is =
      ap (λ xs. xs ++ entries_of F (flat_map (rows_from a F) (rows_below (F l)))) (ap own_entries is.row ∙ entries-gather e n ls is.sets)
      ∙ ap (λ xs. gather (λ p. entry_links (place_of e n ls p)) 32 ++ xs)
      (entries-under F a (rows_below (F l))
      ∙ ap (flat_map (λ k. entries_of F (rows_from a F k))) (ap rows_below is.row ∙ nodes-gather e n ls is.sets)
      ∙ flat_map-gather (λ k. entries_of F (rows_from a F k)) (λ p. node_links (place_of e n ls p)) 32)

  fewer : (p depth : ℕ) (E : List (Entry K)) → length (part cmp code depth p E) ≤ length E
  fewer p depth E = omega (arith, length-filter_both (λ e. nat_eq (digit_at (code e.key) depth) p) (λ e. not (nat_eq (digit_at (code e.key) depth) p)) (λ e. refl) E)

  -- what is true of the trie of any part is true of each row below a trie row
  pub rows-all : (Q : ℕ → Type 0) (depth l : ℕ) (E : List (Entry K)) (IsBelow : ℕ → List (Entry K) → Type 0) (is : IsTrieRow cmp code F depth l E IsBelow) → ((k : ℕ) (P : List (Entry K)) → length P ≤ length E → IsBelow k P → Q k) → All Q (rows_below (F l))
  rows-all Q depth l E IsBelow is each =
      subst (All Q) (sym (ap rows_below is.row.row)) (All-from_get_or Q (drop (rank is.entries 32) is.links) 0 at-index)
    where
      apart : (p : ℕ) → p < 32 → has is.nodes p ≡ true → has is.entries p ≡ false
      apart p small here = elim (cases_Bool (has is.entries p)) [
        | inl both ↦ absurd (let bad = sym here ∙ is.row.sets.apart p small both in cc)
        | inr absent ↦ absent
      ]

      at-position : (p : ℕ) → p < 32 → has is.nodes p ≡ true → Q (get_or is.links (rank is.entries 32 + rank is.nodes p) 0)
      at-position p small here =
          let stands = subst (λ q. IsPlace F IsBelow q (part cmp code depth p E)) (place-node is.entries is.nodes is.links p (apart p small here) here) (is.places p small) in
          each (get_or is.links (rank is.entries 32 + rank is.nodes p) 0) (part cmp code depth p E) (fewer p depth E) stands.1

      at-index : (i : ℕ) → i < length (drop (rank is.entries 32) is.links) → Q (get_or (drop (rank is.entries 32) is.links) i 0)
      at-index i low =
          let at = rank-onto is.nodes 32 i (omega (arith, low, is.row.sets.count, length-drop (rank is.entries 32) is.links)) in
          let which : get_or (drop (rank is.entries 32) is.links) i 0 ≡ get_or is.links (rank is.entries 32 + rank is.nodes at.0) 0 = get_or-drop (rank is.entries 32) is.links i 0 ∙ ap (λ j. get_or is.links (rank is.entries 32 + j) 0) (sym at.3) in
          subst Q (sym which) (at-position at.0 at.1 at.2)

  -- a canonical trie can be walked
  pub trie-layer : (left depth l : ℕ) (E : List (Entry K)) → IsTrie cmp code F left depth l E → IsWalkRow (F l) × IsLayer F left (rows_below (F l))
  unfolding IsTrie IsLayer
  trie-layer zero depth l E is = by_first (first-row F l is.entries is.rows)
    where
      by_first : FirstRow F l is.entries → IsWalkRow (F l) × IsChainRest F (rows_below (F l))
      by_first at = (
        chain-walk F l at.first.link (option_to_list at.next) at.row,
        record { next = at.next; entries = at.others; list = chain-below F l at.first.link (option_to_list at.next) at.row; chain = at.rows },
      )
  trie-layer (suc left) depth l E is = (
    subst IsWalkRow (sym is.row.row) is.row.sets,
    rows-all (λ k. IsWalkRow (F k) × IsLayer F left (rows_below (F k))) depth l E (λ k P. IsTrie cmp code F left (suc depth) k P) is (λ k P few t. trie-layer left (suc depth) k P t),
  )

  at-place : (left depth a n : ℕ) → ((k : ℕ) (P : List (Entry K)) → IsTrie cmp code F left (suc depth) k P → length P ≤ n → SameSet (entries_of F (rows_from a F k)) (map (λ e. e.link) P))
      → (q : Place) (P : List (Entry K)) → IsPlace F (λ k P. IsTrie cmp code F left (suc depth) k P) q P → length P ≤ n
      → SameSet (entry_links q ++ flat_map (λ k. entries_of F (rows_from a F k)) (node_links q)) (map (λ e. e.link) P)
  at-place left depth a n again Empty P stands few = subst (λ P. SameSet [] (map (λ e. e.link) P)) (sym stands) same_none
  at-place left depth a n again (At x) P stands few = subst (λ P. SameSet (x ∷ []) (map (λ e. e.link) P)) (sym stands.1) (same-refl (x ∷ []))
  at-place left depth a n again (Node k) P stands few = subst (λ ls. SameSet ls (map (λ e. e.link) P)) (sym (append-nil (entries_of F (rows_from a F k)))) (again k P stands.1 few)

  -- the walk, as deep as there are entries, has the links of the entries
  pub trie-walk : (left depth l : ℕ) (E : List (Entry K)) → IsTrie cmp code F left depth l E → (a n : ℕ) → length E ≤ n → left + n ≤ a → SameSet (entries_of F (rows_from a F l)) (map (λ e. e.link) E)
  unfolding IsTrie rows_from
  trie-walk zero depth l E is a n few enough =
      let all : rows_from a F l ++ [] ≡ rows_from a F l = append-nil _ in
      subst (λ ls. SameSet ls (map (λ e. e.link) E)) (sym (rest-entries F is.entries (Some l) is.rows a (omega (arith, few, same-length _ _ is.same))) ∙ ap (entries_of F) all) (same-map (λ e. e.link) is.entries E is.same)
  trie-walk (suc left) depth l E is zero n few enough = absurd (omega arith)
  trie-walk (suc left) depth l E is (suc a) n few enough =
      subst (λ ls. SameSet ls (map (λ e. e.link) E)) (sym (entries-row F a l depth is.entries is.nodes is.links is.row))
      (same_through _ _ _ (gather-both (λ p. entry_links (place_of is.entries is.nodes is.links p)) (λ p. flat_map (λ k. entries_of F (rows_from a F k)) (node_links (place_of is.entries is.nodes is.links p))) 32)
      (same_through _ _ _ (gather-set _ (λ p. map (λ e. e.link) (part cmp code depth p E)) 32 (λ p small. at-place left depth a n (λ k P t low. trie-walk left (suc depth) k P t a n low (omega arith)) (place_of is.entries is.nodes is.links p) (part cmp code depth p E) (is.places p small) (omega (arith, few, fewer p depth E))))
      (subst (λ ls. SameSet ls (map (λ e. e.link) E)) (map-gather (λ e. e.link) (λ p. part cmp code depth p E) 32)
      (same-map (λ e. e.link) _ E (parts-whole cmp code depth E)))))

-- what stands among the elements that pass a test
module _ {X : Type 0} where
  among-filter : (q : X → Bool) (x : X) (xs : List X) → q x ≡ true → Among x xs → Among x (filter q xs)
  among-filter q x [] passes nowhere = absurd nowhere
  among-filter q x (y ∷ ys) passes there = by_test (q y) refl there (among-filter q x ys passes)
    where
      by_test : (b : Bool) → q y ≡ b → (y ≡ x) ⊎ Among x ys → (Among x ys → Among x (filter q ys)) → Among x (cond b (y ∷ filter q ys) (filter q ys))
      by_test true e (inl same) again = inl same
      by_test true e (inr i) again = inr (again i)
      by_test false e (inl same) again = absurd (let bad = sym e ∙ ap q same ∙ passes in cc)
      by_test false e (inr i) again = again i

  count-among : (q : X → Bool) (x : X) (xs : List X) → q x ≡ true → Among x xs → 1 ≤ count_by q xs
  count-among q x [] passes nowhere = absurd nowhere
  count-among q x (y ∷ ys) passes (inl same) = let one : Bool → ℕ = λ b. cond b 1 0 in omega (arith, count-cons q y ys, ap one (ap q same ∙ passes))
  count-among q x (y ∷ ys) passes (inr i) = omega (arith, count-cons q y ys, count-among q x ys passes i)

  low-row : (rows : List (Option X)) (l : ℕ) → IsSome (get_or rows l None) → l < length rows
  low-row [] l live = absurd cc
  low-row (r ∷ rs) zero live = omega arith
  low-row (r ∷ rs) (suc l) live = omega (arith, low-row rs l live)

  some-one : (r : Option X) → IsSome r → (let n : ℕ = cond (is_some r) 1 0 in n) ≡ 1
  some-one None live = absurd cc
  some-one (Some x) live = refl

module _ {K : Type 0} (cmp : K → K → Ordering) (code : K → ℕ) (F : Forms K) where
  rows-entries : (next : Option ℕ) (es : List (Entry K)) → AreChainRows F next es → (e : Entry K) → Among e es → IsEntry F e
  unfolding AreChainRows
  rows-entries next [] rows e nowhere = absurd nowhere
  rows-entries next (d ∷ ds) rows e (inl same) = subst (IsEntry F) same rows.key
  rows-entries next (d ∷ ds) rows e (inr i) = rows-entries rows.next ds rows.rest e i

  -- the entries of a trie are entries
  pub trie-entries : (left depth l : ℕ) (E : List (Entry K)) → IsTrie cmp code F left depth l E → (e : Entry K) → Among e E → IsEntry F e
  unfolding IsTrie
  trie-entries zero depth l E is e i = rows-entries (Some l) is.entries is.rows e (same-among e E is.entries (same-sym is.entries E is.same) i)
  trie-entries (suc left) depth l E is e i =
      let p : ℕ = digit_at (code e.key) depth in
      at-place (λ k P t j. trie-entries left (suc depth) k P t e j) (place_of is.entries is.nodes is.links p) (part cmp code depth p E) (is.places p (omega arith)) (among-filter (λ d. nat_eq (digit_at (code d.key) depth) p) e E (eq-eqb p p refl) i)
    where
      at-place : ((k : ℕ) (P : List (Entry K)) → IsTrie cmp code F left (suc depth) k P → Among e P → IsEntry F e) → (q : Place) (P : List (Entry K)) → IsPlace F (λ k P. IsTrie cmp code F left (suc depth) k P) q P → Among e P → IsEntry F e
      at-place again Empty P stands j = absurd (subst (Among e) stands j)
      at-place again (At x) P stands j = only (subst (Among e) stands.1 j)
        where
          only : (entry stands.0 x ≡ e) ⊎ ⊥ → IsEntry F e
          only (inl same) = subst (IsEntry F) same stands.2
          only (inr nowhere) = absurd nowhere
      at-place again (Node k) P stands j = again k P stands.1 j

  module _ (o : IsTotalOrder cmp) where
    distinct-rest : (e : Entry K) (es : List (Entry K)) → AreDistinct cmp (e ∷ es) → AreDistinct cmp es
    distinct-rest e es d = record { once = λ k. omega (arith, d.once k, count-cons (has_key cmp k) e es) }

    -- different keys have different links
    distinct-link : (e : Entry K) (es : List (Entry K)) → AreDistinct cmp (e ∷ es) → IsEntry F e → (d : Entry K) → Among d es → IsEntry F d → d.link ≢ e.link
    distinct-link e es apart here d i there same =
        let key : e.key ≡ d.key = (let both : Some e.key ≡ Some d.key = sym here ∙ ap (key_at F) (sym same) ∙ there in cc) in
        let tied = ap is_eq (tied_itself o e.key) in
        let other : has_key cmp e.key d ≡ true = ap (λ k. is_eq (cmp e.key k)) (sym key) ∙ tied in
        let one : Bool → ℕ = λ b. cond b 1 0 in
        omega (arith, apart.once e.key, count-cons (has_key cmp e.key) e es, ap one tied, count-among (has_key cmp e.key) d es other i)

    -- entries with different keys are no more than the rows that they are
    pub distinct-fit : {R : Type 0} (rows : List (Option R)) (E : List (Entry K)) → AreDistinct cmp E → ((e : Entry K) → Among e E → IsEntry F e) → ((e : Entry K) → Among e E → IsSome (get_or rows e.link None)) → length E ≤ count_by is_some rows
    distinct-fit rows [] apart are live = omega arith
    distinct-fit {R} rows (e ∷ es) apart are live =
        let empty : Option R = None in
        let here : IsSome (get_or rows e.link empty) = live e (inl refl) in
        let rest : length es ≤ count_by is_some (set rows e.link empty) =
        distinct-fit (set rows e.link empty) es (distinct-rest e es apart) (λ d i. are d (inr i))
        (λ d i. let other : d.link ≢ e.link = distinct-link e es apart (are e (inl refl)) d i (are d (inr i)) in rw (get_or-set_other {A = Option R}) (live d (inr i))) in
        omega (arith, rest, sum_by-set (λ (r : Option R). cond (is_some r) 1 0) rows e.link empty empty (low-row rows e.link here), some-one (get_or rows e.link empty) here)

module _ {T : Type 0} (cmp : T → T → Ordering) (code : T → ℕ) (o : IsTotalOrder cmp) where
  -- a trie has no more entries than the heap has rows
  pub canon-fit : (h : Heap T) (root : ℕ) (E : List (Entry T)) → IsCanon cmp code (form_at h) root E → length E ≤ live_count h
  canon-fit h root E canon =
      let are = trie-entries cmp code (form_at h) LEVELS 0 root E canon.trie in
      distinct-fit cmp code (form_at h) o h.rows E canon.distinct are (λ e i. key-live h e.link e.key (are e i))
