-- What an edit makes of a trie row at the digit of its key: where nothing stands, at an entry, at a chain and at a row of the next depth.
use Rattle.std.proofs.Common.{◌≡◌, ℕ, suc, ◌+◌, List, [], ◌∷◌, refl, ap, sym, subst, ◌∙◌, arith, Some, None, option_map, ◌≢◌, ◌<◌, ◌≤◌, length, not}
use Rattle.std.specs.List.{find, All}
use Rattle.std.specs.Ordering.{match_ordering}
use Rattle.std.specs.Cmp.{IsTotalOrder}
use Rattle.std.specs.declared.cmp.Ordering.{Ordering}
use Rattle.std.specs.declared.cmp.Ordering.TheVariants.{Equal}
use Rattle.std.specs.Prelude.{nat_eq}
use Rattle.std.proofs.lemmas.Cmp.{tied_back}
use Rattle.std.proofs.lemmas.List.Elements.{All-filter}
use Rattle.std.proofs.lemmas.List.{take_all}
use Rattle.elem_core.specs.Codes.{digit_at}
use Rattle.node_heap.specs.Forms.{is_node, form_of, links_in}
use Rattle.node_heap.specs.Heap.{Heap, row_at, form_at, links_at, holds_at, IsGraph}
use Rattle.node_heap.specs.InPlace.{child_at, Changes}
use Rattle.node_heap.specs.Owner.{KeepsAlone, alone}
use Rattle.node_heap.specs.Links.{count, Reaches, here, below}
use Rattle.node_heap.specs.Calls.{Gains, SameRows}
use Rattle.node_heap.proofs.CallerLemmas.{Changes-more, Gains-trans, KeepsAlone-none, KeepsAlone-cons, KeepsAlone-own, alone-yes, alone-own, Reaches-by, Reaches-trans, IsGraph-acyclic, OwnsChild, own-there, owned-child, gains-child, own-down, own-linked, own-held, own-apart, apart-child}
use Rattle.champ_chain.specs.Entry.{Entry, entry, has_key, IsEntry, put, link_with, others}
use Rattle.champ_chain.specs.Chain.{IsChain}
use Rattle.champ_chain.proofs.CallerLemmas.{same-length, links-form}
use Rattle.champ_trie.specs.Trie.{IsPlace, IsTrie, part, IsRow, place_of}
use Rattle.champ_trie.specs.Reach.{alike_in}
use Rattle.champ_trie.specs.declared.place.Place.TheVariants.{Entry as At, Node, Empty}
use Rattle.champ_trie.proofs.CallerLemmas.{part-distinct, part-alike, chain-trie, trie-reach, stands-at, below-part, lone-gone, same-place-of, put-two}
use Rattle.champ_trie.specs.Edit.{IsBelow}
use Rattle.champ_kinds.proofs.CallerLemmas.{others-none, link-none}
use Rattle.edit_trie.specs.Path.{chain_rows, pair_rows, own_entry, row_and_entry, MakesCopies, edit_rows, way_rows, MakesFew}
use Rattle.edit_trie.specs.Spot.{IsSpot, PutsAt}
use Rattle.edit_trie.specs.Walk.{EditsChild, HasPair, OwnsIn, PutsEntryIn, CutsIn, MakesShared}
use Rattle.edit_trie.specs.Chains.{OwnsInChain, PutsInChain, CutsFromChain}
use Rattle.edit_trie.specs.declared.row.Spot.TheVariants.{Entry as EntryAt, Empty as NoneAt, Node as NodeAt}
use Rattle.edit_trie.proofs.StepLemmas.{copies-cons, copies-own, shared-same, shared-one, shared-cons, shared-last, made-last, made-cons, AtRow, find-only, find-has, put-only, part-short, part-find, stands, not-none, at-entry, entry-row, entry-stays, trie-with, entry-puts, entry-beside, node-puts, node-beside, digit, part-link, at-none, elsewhere, place-is, at-node, trie-less, MeetsChain, OwnsNext, path-was, path-now, off-row, apart-owned, chain-was, chain-now, down-off, down-edits, down-trie, down-keeps, down-copies, tail, down-was, down-mid, down-next, down-now, down-shared, down-made}
use Rattle.edit_trie.proofs.RowLemmas.{key-moved, cells-kept, row-keyless, not-row, row-links}
use Rattle.edit_trie.proofs.ChildLemmas.{own-child, unspent-one}
use Rattle.edit_trie.proofs.PathLemmas.{pair-paths, order-entry, edit-paths, rows_below, rows-first}
use Rattle.edit_trie.proofs.WayLemmas.{on-length, way-paths}
use Rattle.edit_trie.proofs.LoneLemmas.{all-below}

-- what a row leads to doesn't lead back
no-back : {T : Type 0} (h : Heap T) → IsGraph h → (a b : ℕ) → Reaches (links_at h) a b → a ≢ b → ¬ Reaches (links_at h) b a
no-back h graph a b (here l) other back = other refl
no-back h graph a b (below l k m has rest) other back = IsGraph-acyclic h graph l k has (Reaches-trans (links_at h) k m l rest back)

-- a hold changes no row
pub row-held : {T : Type 0} (old held : Heap T) (row d e n : ℕ) (ls : List ℕ) → SameRows old held → IsRow (form_at old) row d e n ls → IsRow (form_at held) row d e n ls
row-held old held row d e n ls rows is = record { row = ap (option_map form_of) (rows row) ∙ is.row; sets = is.sets }

module _ {T : Type 0} {cmp : T → T → Ordering} {code : T → ℕ} {old : Heap T} {left d row c : ℕ} {E : List (Entry T)} {key : T} (a : AtRow cmp code old left d row c E key) where
  abbrev P : List (Entry T)
  P = part cmp code d (digit_at c d) E

  abbrev edits : (h : Heap T) (most : ℕ) → List ℕ
  edits h most = edit_rows cmp (form_at h) key most (suc left) d c row

  -- the pair of the key is there, and the way to it is made one's own
  module _ (o : IsTotalOrder cmp) {x : Entry T} (pair : HasPair cmp old E key x) where
    abbrev pair-path : (h : Heap T) (most : ℕ) → List ℕ
    pair-path h most = pair_rows cmp (form_at h) key most (suc left) d c row

    same-key : cmp key x.key ≡ Equal
    same-key = find-has cmp key E x pair.found

    same-digit : digit_at (code x.key) d ≡ digit_at c d
    same-digit = ap (λ m. digit_at m d) (sym (a.equal_codes key x.key same-key) ∙ sym a.is_code)

    pub own-never : IsSpot a.entries a.nodes (digit_at c d) NoneAt → ⊥
    own-never spot = not-none a (λ none. let bad : Some x.link ≡ None = sym (ap (option_map (λ (z : Entry T). z.link)) pair.found) ∙ none in cc) spot

    in-part : find (has_key cmp key) P ≡ Some x
    in-part = part-find a ∙ pair.found

    -- the pair is in the part, as before
    pub pair-part : HasPair cmp old (part cmp code d (digit_at c d) E) key x
    pair-part = record { found = in-part; keyed = pair.keyed; is_pair = pair.is_pair }

    -- what is said of an entry of the key
    says-entry : (h : Heap T) (y : ℕ) → IsEntry (form_at h) (entry x.key y) → own_entry cmp (form_at h) key y ≡ y ∷ []
    says-entry h y keyed = ap (λ r. match_ordering r [] (y ∷ []) []) (order-entry cmp (form_at h) key y x.key keyed ∙ tied_back o key x.key same-key)

    -- the pair stands at the row: it is the only entry with the digit
    module _ (i : ℕ) (spot : IsSpot a.entries a.nodes (digit_at c d) (EntryAt i)) where
      pub only-entry : (child_at old row i ≡ x.link) × (part cmp code d (digit_at c d) E ≡ x ∷ [])
      only-entry =
          let at = stands a (At (child_at old row i)) (at-entry a i spot) in
          let same : entry at.0 (child_at old row i) ≡ x = find-only cmp key (entry at.0 (child_at old row i)) x (sym (ap (find (has_key cmp key)) at.1) ∙ in-part) in
          (ap (λ (z : Entry T). z.link) same, at.1 ∙ ap (λ z. z ∷ []) same)

      -- it was made the row's own
      module _ (new : Heap T) (r : ℕ) (own : OwnsChild old new row i r) where
        abbrev y : ℕ
        y = child_at old row i

        pair-row : row_at new r ≡ row_at old x.link
        pair-row = own.row ∙ ap (row_at old) only-entry.0

        pair-key : IsEntry (form_at new) (entry x.key r)
        pair-key = key-moved (form_at old) (form_at new) x.link r x.key (ap (option_map form_of) pair-row) (cells-kept old new row (row-keyless (form_at old) row d a.entries a.nodes a.links a.is) own.stays) pair.keyed

        own-edits : EditsChild row i old new [] [] 0 1
        own-edits = own-child old new row i r a.can.graph own

        was-rows : (most : ℕ) → pair-path old most ≡ row ∷ child_at old row i ∷ []
        was-rows most = path-was a (pair-paths cmp code key) most (At y) (at-entry a i spot) ∙ ap (λ ks. row ∷ ks) (says-entry old y (subst (λ l. IsEntry (form_at old) (entry x.key l)) (sym only-entry.0) pair.keyed))

        now-rows : (more : ℕ) → pair-path new more ≡ row ∷ r ∷ []
        now-rows more =
            path-now a (pair-paths cmp code key) new more (At (child_at new row i)) (entry-puts a new i own-edits spot)
            ∙ ap (λ k. row ∷ own_entry cmp (form_at new) key k) (own-there old new row i r own) ∙ ap (λ ks. row ∷ ks) (says-entry new r pair-key)

        keeps : KeepsAlone old (row ∷ child_at old row i ∷ []) (row ∷ r ∷ [])
        keeps =
            KeepsAlone-cons old row (y ∷ []) (r ∷ []) a.can.sole
            (KeepsAlone-own old new y r [] own.same own.sole own.owners a.can.graph (λ none. absurd (omega (arith, none))) (r ∷ []) (KeepsAlone-cons new r [] [] own.sole (KeepsAlone-none new)))

        copied : MakesCopies old new (row ∷ child_at old row i ∷ [])
        copied =
            let last : MakesCopies new new (r ∷ []) = omega (arith, alone-yes new r [] own.sole) in
            copies-cons old new row (y ∷ []) a.can.sole (copies-own old new y r own.same own.sole own.owners a.can.graph [] (λ none. absurd (omega (arith, none))) new (omega (arith, own.makes.live)) last)

        alone-put : put cmp P (entry x.key r) ≡ entry x.key r ∷ []
        alone-put = ap (λ es. put cmp es (entry x.key r)) only-entry.1 ∙ put-only cmp o x.key x.link r

        stands-new : IsPlace (form_at new) (λ k Q. IsTrie cmp code (form_at new) left (d + 1) k Q) (At (child_at new row i)) (put cmp P (entry x.key r))
        stands-new = subst (λ k. IsPlace (form_at new) (λ k Q. IsTrie cmp code (form_at new) left (d + 1) k Q) (At k) (put cmp P (entry x.key r))) (sym (own-there old new row i r own)) (x.key, alone-put, pair-key)

        pub owns-entry : OwnsIn cmp code old new left d row c E key x r
        owns-entry = record {
          trie = trie-with a new (At (child_at new row i)) (entry-puts a new i own-edits spot) (entry-beside a new i own-edits spot) (entry x.key r) same-digit stands-new;
          same = pair-row;
          down = owned-child old new row i r own;
          changes = Changes-more 0 (left + 1 + alike_in code c E) own.changes (omega arith) (omega arith);
          gains = gains-child old new row i r own;
          path = λ most more short short'. rw (was-rows most, now-rows more) keeps;
          came = λ most short. subst (MakesCopies old new) (sym (was-rows most)) copied;
          others = λ most short m live off. own.stays m (off-row a m (was-rows most) off).0 live;
          apart = λ most short m live off. apart-owned old new row i r own m [] live (off-row a m (was-rows most) off).1;
        }

    -- it is in a chain below the row
    module _ (new : Heap T) (r : ℕ) {i : ℕ} (s : MeetsChain a i) (did : OwnsInChain cmp old new row i P key x r) where
      abbrev pair-chained : (h : Heap T) (most : ℕ) → List ℕ
      pair-chained h most = chain_rows cmp (form_at h) key (row_and_entry cmp (form_at h) key) most (Some (child_at h row i))

      pair-was : (most : ℕ) → pair-path old most ≡ row ∷ pair-chained old most
      pair-was = chain-was a s (pair-paths cmp code key)

      pub owns-chain : OwnsIn cmp code old new left d row c E key x r
      owns-chain = record {
        trie = trie-with a new (Node (child_at new row i)) (node-puts a new i did.child s.spot) (node-beside a new i did.child s.spot) (entry x.key r) same-digit (
          put-two cmp code P (entry x.key r) (part-distinct cmp code d (digit_at c d) E a.can.below.distinct) s.chain.two,
          chain-trie cmp code (form_at new) left (d + 1) (child_at new row i) (put cmp P (entry x.key r)) s.last did.chain,
        );
        same = did.same;
        down = did.down;
        changes = Changes-more 0 (left + 1 + alike_in code c E) did.child.changes (omega arith) (omega (arith, s.alike));
        gains = did.gains;
        path = λ most more short short'.
            rw (pair-was most, chain-now a s (pair-paths cmp code key) new did.child more) (KeepsAlone-cons old row (pair-chained old most) (pair-chained new more) a.can.sole (did.path most more (omega (arith, part-short a, short)) (omega (arith, part-short a, short'))));
        came = λ most short. subst (MakesCopies old new) (sym (pair-was most)) (copies-cons old new row (pair-chained old most) a.can.sole (did.came most (omega (arith, part-short a, short))));
        others = λ most short m live off. let rest = off-row a m (pair-was most) off in did.writes most (omega (arith, part-short a, short)) m live rest.0 rest.1;
        apart = λ most short m live off. let rest = off-row a m (pair-was most) off in did.apart most (omega (arith, part-short a, short)) m live rest.0 rest.1;
      }

    -- it is below a row of the next depth
    module _ {mid : Heap T} {i k : ℕ} (s : OwnsNext a mid i k) where
      pub pair-below : HasPair cmp mid (part cmp code d (digit_at c d) E) key x
      pair-below = record { found = in-part; keyed = entry-stays a mid s.own.stays x pair.keyed; is_pair = ap is_node (entry-row a mid s.own.stays x pair.keyed) ∙ pair.is_pair }

      module _ (new : Heap T) (r : ℕ) (did : OwnsIn cmp code mid new s.deeper.m (d + 1) k c P key x r) where
        own-edited : EditsChild row i old new [] [] (0 + 0) (1 + (s.deeper.m + 1 + alike_in code c P))
        own-edited = down-edits a s new did.changes (λ u up. refl)

        pub owns-node : OwnsIn cmp code old new left d row c E key x r
        owns-node = record {
          trie = trie-with a new (Node (child_at new row i)) (node-puts a new i own-edited s.spot) (node-beside a new i own-edited s.spot) (entry x.key r) same-digit
              (put-two cmp code P (entry x.key r) s.deeper.below.distinct s.deeper.two, down-trie a s new did.changes (λ u up. refl) (put cmp P (entry x.key r)) did.trie);
          same = did.same ∙ entry-row a mid s.own.stays x pair.keyed;
          down = own-down old mid new row i k a.can.graph s.own [] [] did.changes (λ u up. refl) r did.down;
          changes = Changes-more 0 (left + 1 + alike_in code c E) own-edited.changes (omega arith) (omega (arith, s.deeper.is, part-alike cmp code d c E));
          gains = Gains-trans (gains-child old mid row i k s.own) did.gains;
          path = λ most more short short'. down-keeps a s new did.changes (λ u up. refl) (pair-paths cmp code key) most more (did.path most more (omega (arith, part-short a, short)) (omega (arith, part-short a, short')));
          came = λ most short. down-copies a s (pair-paths cmp code key) most new (did.came most (omega (arith, part-short a, short)));
          others = λ most short m live off. let away = down-off a s (pair-paths cmp code key) most m live off in did.others most (omega (arith, part-short a, short)) m away.1 away.2 ∙ away.0;
          apart = λ most short m live off. let away = down-off a s (pair-paths cmp code key) most m live off in did.apart most (omega (arith, part-short a, short)) m away.1 away.2;
        }

  -- an entry of the key, which is absent, is put in
  module _ (l : ℕ) where
    abbrev ways : (h : Heap T) (most : ℕ) → List ℕ
    ways h most = way_rows (form_at h) most (suc left) d c row

    -- nothing stood at the digit
    module _ (new : Heap T) (spot : IsSpot a.entries a.nodes (digit_at c d) NoneAt) (keyed : IsEntry (form_at old) (entry key l)) (puts : PutsAt (form_at new) row d a.entries a.nodes a.links (digit_at c d) (At l))
        (others : (k : ℕ) → k ≢ row → row_at new k ≡ row_at old k) (change : Changes row old new (l ∷ []) [] 0 0) (gains : Gains old new) where
      was-none : (most : ℕ) → edits old most ≡ row ∷ []
      was-none most = path-was a (edit-paths cmp code key) most Empty (at-none a spot)

      few-none : (most more : ℕ) → MakesFew old new (edits old most) (ways old most) (ways new more) 0
      few-none most more =
          let was = path-was a (way-paths cmp code) most Empty (at-none a spot) in
          let now = path-now a (way-paths cmp code) new more (At l) puts in
          omega (
            arith,
            ap (alone old) (was-none most),
            ap length (was-none most),
            ap length was,
            ap length now,
            alone-yes old row [] a.can.sole,
            gains.makes.live,
            gains.makes.cells,
            gains.makes.nodes,
            change.trades.cells,
            change.trades.nodes,
          )

      pub puts-none : PutsEntryIn cmp code old new left d row c E key l
      puts-none = record {
        trie = trie-with a new (At l) puts (elsewhere a new (λ k other live. others k other)) (entry key l) (digit a)
            (key, ap (λ es. put cmp es (entry key l)) (stands a Empty (at-none a spot)), entry-stays a new (λ k other live. others k other) (entry key l) keyed);
        changes = Changes-more 0 (left + 1 + alike_in code c E) change (omega arith) (omega arith);
        gains = gains;
        path = λ most more short short'. rw (was-none most, path-now a (edit-paths cmp code key) new more (At l) puts) (shared-one old row [] a.can.sole);
        came = λ most more short short'. few-none most more;
        others = λ most short m live off. others m (off-row a m (was-none most) off).0;
      }

    -- a chain stood there
    module _ (new : Heap T) {i : ℕ} (s : MeetsChain a i) (did : PutsInChain cmp old new row i P key l) (absent : link_with cmp key E ≡ None) where
      abbrev put-chained : (h : Heap T) (most : ℕ) → List ℕ
      put-chained h most = chain_rows cmp (form_at h) key (λ _. []) most (Some (child_at h row i))

      put-was : (most : ℕ) → edits old most ≡ row ∷ put-chained old most
      put-was = chain-was a s (edit-paths cmp code key)

      -- a chain has as many rows as entries
      chain-length : (h : Heap T) (most : ℕ) (Q : List (Entry T)) → IsChain cmp (form_at h) (child_at h row i) Q → length Q ≤ most → length ((way-paths cmp code).chain (form_at h) most (child_at h row i)) ≡ length Q
      chain-length h most Q is few =
          let size = same-length is.entries Q is.same in
          omega (arith, on-length (form_at h) most (Some (child_at h row i)) is.entries (omega (arith, size, few)) is.rows, size)

      few-chain : (most more : ℕ) → length E ≤ most → length E + 1 ≤ more → MakesFew old new (edits old most) (ways old most) (ways new more) 0
      few-chain most more short short' =
          let none = others-none cmp key P (link-none cmp key P (part-link a ∙ absent)) in
          let size : length (put cmp P (entry key l)) ≡ length P + 1 = omega (arith, ap length none) in
          let before = chain-length old most P s.chain (omega (arith, part-short a, short)) in
          let after = chain-length new more (put cmp P (entry key l)) did.chain (omega (arith, size, part-short a, short')) in
          omega (
            arith,
            did.came most (omega (arith, part-short a, short)),
            before,
            after,
            size,
            ap length (chain-was a s (way-paths cmp code) most),
            ap length (chain-now a s (way-paths cmp code) new did.child more),
            ap (alone old) (put-was most),
            ap length (put-was most),
            alone-yes old row (put-chained old most) a.can.sole,
          )

      pub puts-chain : PutsEntryIn cmp code old new left d row c E key l
      puts-chain = record {
        trie = trie-with a new (Node (child_at new row i)) (node-puts a new i did.child s.spot) (node-beside a new i did.child s.spot) (entry key l) (digit a) (
          put-two cmp code P (entry key l) (part-distinct cmp code d (digit_at c d) E a.can.below.distinct) s.chain.two,
          chain-trie cmp code (form_at new) left (d + 1) (child_at new row i) (put cmp P (entry key l)) s.last did.chain,
        );
        changes = Changes-more 0 (left + 1 + alike_in code c E) did.child.changes (omega arith) (omega (arith, s.alike));
        gains = did.gains;
        path = λ most more short short'.
            let keep = did.path most more (omega (arith, part-short a, short)) (omega (arith, part-short a, short')) in
            rw (put-was most, chain-now a s (edit-paths cmp code key) new did.child more) (shared-cons old row (put-chained old most) (put-chained new more) a.can.sole (shared-same keep));
        came = few-chain;
        others = λ most short m live off. let rest = off-row a m (put-was most) off in did.writes most (omega (arith, part-short a, short)) m live rest.0 rest.1;
      }

    -- a row of the next depth stood there
    module _ {mid : Heap T} {i k : ℕ} (s : OwnsNext a mid i k) (held : 0 < holds_at old l) (apart : ¬ Reaches (links_at old) l row) where
      pub keyed-below : IsEntry (form_at old) (entry key l) → IsEntry (form_at mid) (entry key l)
      keyed-below keyed = entry-stays a mid s.own.stays (entry key l) keyed

      off-mid : ¬ Reaches (links_at mid) l row
      off-mid = own-apart old mid row i k a.can.graph s.own l held apart

      pub held-below : 0 < holds_at mid l
      held-below = own-held old mid row i k a.can.graph s.own l held

      pub apart-below : ¬ Reaches (links_at mid) l k
      apart-below = apart-child mid row k l (own-linked old mid row i k s.own) s.own.sole held-below off-mid

      module _ (new : Heap T) (did : PutsEntryIn cmp code mid new s.deeper.m (d + 1) k c P key l) where
        unspent : (u : ℕ) → Reaches (links_at mid) u row → count u (l ∷ []) ≡ 0
        unspent = unspent-one mid row l off-mid

        put-edited : EditsChild row i old new (l ∷ []) [] (0 + 0) (1 + (s.deeper.m + 1 + alike_in code c P))
        put-edited = down-edits a s new did.changes unspent

        few-node : (most more : ℕ) → length E ≤ most → length E + 1 ≤ more → MakesFew old new (edits old most) (ways old most) (ways new more) 0
        few-node most more short short' =
            let p = edit-paths cmp code key in
            let q = way-paths cmp code in
            omega (
              arith,
              did.came most more (omega (arith, part-short a, short)) (omega (arith, part-short a, short')),
              alone-own old mid (child_at old row i) k (tail a s p most) s.own.same s.own.sole s.own.owners a.can.graph (down-next a s p most),
              s.own.makes.live,
              alone-yes old row (child_at old row i ∷ tail a s p most) a.can.sole,
              ap (alone old) (down-was a s p most),
              ap length (down-was a s p most),
              ap (alone mid) (down-mid a s p most),
              ap length (down-mid a s p most),
              ap length (down-was a s q most),
              ap length (down-mid a s q most),
              ap length (down-now a s new did.changes unspent q more),
            )

        pub puts-node : PutsEntryIn cmp code old new left d row c E key l
        puts-node = record {
          trie = trie-with a new (Node (child_at new row i)) (node-puts a new i put-edited s.spot) (node-beside a new i put-edited s.spot) (entry key l) (digit a)
              (put-two cmp code P (entry key l) s.deeper.below.distinct s.deeper.two, down-trie a s new did.changes unspent (put cmp P (entry key l)) did.trie);
          changes = Changes-more 0 (left + 1 + alike_in code c E) put-edited.changes (omega arith) (omega (arith, s.deeper.is, part-alike cmp code d c E));
          gains = Gains-trans (gains-child old mid row i k s.own) did.gains;
          path = λ most more short short'. down-shared a s new did.changes unspent (edit-paths cmp code key) most more (did.path most more (omega (arith, part-short a, short)) (omega (arith, part-short a, short')));
          came = few-node;
          others = λ most short m live off. let away = down-off a s (edit-paths cmp code key) most m live off in did.others most (omega (arith, part-short a, short)) m away.1 away.2 ∙ away.0;
        }

  -- the key is taken out
  -- its row was written alone
  module _ (new : Heap T) (stay : (k : ℕ) → k ≢ row → row_at new k ≡ row_at old k) (x : ℕ) (change : Changes row old new [] (x ∷ []) 0 0) (gain : Gains old new) where
    -- the entry at the digit is out
    module _ (i : ℕ) (spot : IsSpot a.entries a.nodes (digit_at c d) (EntryAt i)) (puts : PutsAt (form_at new) row d a.entries a.nodes a.links (digit_at c d) Empty) (there : link_with cmp key E ≢ None) where
      none-left : others cmp key P ≡ []
      none-left =
          let at = stands a (At (child_at old row i)) (at-entry a i spot) in
          ap (others cmp key) at.1 ∙ lone-gone cmp code key (entry at.0 (child_at old row i)) (λ none. there (sym (part-link a) ∙ ap (link_with cmp key) at.1 ∙ none))

      was-entry : (most : ℕ) → edits old most ≡ row ∷ []
      was-entry most = path-was a (edit-paths cmp code key) most (At (child_at old row i)) (at-entry a i spot)

      now-entry : (more : ℕ) → edits new more ≡ row ∷ []
      now-entry more = path-now a (edit-paths cmp code key) new more Empty puts

      pub cuts-entry : CutsIn cmp code old new left d row c E key x
      cuts-entry = record {
        gains = gain;
        trie = trie-less a new Empty puts (elsewhere a new (λ k other live. stay k other)) none-left;
        changes = Changes-more 0 (left + alike_in code c E) change (omega arith) (omega arith);
        path = λ most more short short'. rw (was-entry most, now-entry more) (shared-one old row [] a.can.sole);
        came = λ most more short short'. rw (was-entry most, now-entry more) (made-last old new row [] a.can.sole gain change);
        others = λ most short m live live' off. stay m (off-row a m (was-entry most) off).0;
      }

    -- a node at the digit is out, and the entry that would be left in it stands there
    module _ (lone : ℕ) (k : T) (left_one : others cmp key P ≡ entry k lone ∷ []) (keyed : IsEntry (form_at old) (entry k lone)) (puts : PutsAt (form_at new) row d a.entries a.nodes a.links (digit_at c d) (At lone)) where
      abbrev rest : ℕ → List ℕ
      rest most = rows_below (λ _. []) (λ q. chain_rows cmp (form_at old) key (λ _. []) most (Some q)) (form_at old) left d c row

      was-lift : (most : ℕ) → edits old most ≡ row ∷ rest most
      was-lift most = rows-first (λ _. []) (λ q. chain_rows cmp (form_at old) key (λ _. []) most (Some q)) (form_at old) left d c row

      now-lift : (more : ℕ) → edits new more ≡ row ∷ []
      now-lift more = path-now a (edit-paths cmp code key) new more (At lone) puts

      pub cuts-lift : CutsIn cmp code old new left d row c E key x
      cuts-lift = record {
        gains = gain;
        trie = trie-less a new (At lone) puts (elsewhere a new (λ q other live. stay q other)) (k, left_one, entry-stays a new (λ q other live. stay q other) (entry k lone) keyed);
        changes = Changes-more 0 (left + alike_in code c E) change (omega arith) (omega arith);
        path = λ most more short short'. rw (was-lift most, now-lift more) (shared-last old row (rest most) a.can.sole);
        came = λ most more short short'. rw (was-lift most, now-lift more) (made-last old new row (rest most) a.can.sole gain change);
        others = λ most short m live live' off. stay m (off-row a m (was-lift most) off).0;
      }

  -- a chain stood there
  module _ (new : Heap T) {i : ℕ} (s : MeetsChain a i) (x : ℕ) (did : CutsFromChain cmp old new row i P key x) where
    abbrev cut-chained : (h : Heap T) (most : ℕ) → List ℕ
    cut-chained h most = chain_rows cmp (form_at h) key (λ _. []) most (Some (child_at h row i))

    cut-was : (most : ℕ) → edits old most ≡ row ∷ cut-chained old most
    cut-was = chain-was a s (edit-paths cmp code key)

    cut-now : (more : ℕ) → edits new more ≡ row ∷ cut-chained new more
    cut-now = chain-now a s (edit-paths cmp code key) new did.child

    pub cuts-chain : CutsIn cmp code old new left d row c E key x
    cuts-chain = record {
      gains = did.gains;
      trie = trie-less a new (Node (child_at new row i)) (node-puts a new i did.child s.spot) (node-beside a new i did.child s.spot) (did.chain.two, chain-trie cmp code (form_at new) left (d + 1) (child_at new row i) (others cmp key P) s.last did.chain);
      changes = Changes-more 0 (left + alike_in code c E) did.child.changes (omega arith) (omega (arith, s.alike));
      path = λ most more short short'.
          rw (cut-was most, cut-now more) (shared-cons old row (cut-chained old most) (cut-chained new more) a.can.sole (shared-same (did.path most more (omega (arith, part-short a, short)) (omega (arith, part-short a, short')))));
      came = λ most more short short'.
          let keep = did.path most more (omega (arith, part-short a, short)) (omega (arith, part-short a, short')) in
          let came = did.came most (omega (arith, part-short a, short)) in
          let all : MakesShared old new (cut-chained old most) (cut-chained new more) = omega (arith, came, keep.places, ap (alone old) (take_all (length (cut-chained new more)) (cut-chained old most) (omega (arith, keep.places)))) in
          rw (cut-was most, cut-now more) (made-cons old new row (cut-chained old most) (cut-chained new more) a.can.sole all);
      others = λ most short m live live' off. let rest = off-row a m (cut-was most) off in did.writes most (omega (arith, part-short a, short)) m live rest.0 rest.1;
    }

  -- a row of the next depth stood there
  module _ {mid : Heap T} {i k : ℕ} (s : OwnsNext a mid i k) (new : Heap T) (x : ℕ) (two : 2 ≤ length (others cmp key P)) (did : CutsIn cmp code mid new s.deeper.m (d + 1) k c P key x) where
    cut-edited : EditsChild row i old new [] (x ∷ []) (0 + 0) (1 + (s.deeper.m + alike_in code c P))
    cut-edited = down-edits a s new did.changes (λ u up. refl)

    pub cuts-node : CutsIn cmp code old new left d row c E key x
    cuts-node = record {
      gains = Gains-trans (gains-child old mid row i k s.own) did.gains;
      trie = trie-less a new (Node (child_at new row i)) (node-puts a new i cut-edited s.spot) (node-beside a new i cut-edited s.spot) (two, down-trie a s new did.changes (λ u up. refl) (others cmp key P) did.trie);
      changes = Changes-more 0 (left + alike_in code c E) cut-edited.changes (omega arith) (omega (arith, s.deeper.is, part-alike cmp code d c E));
      path = λ most more short short'. down-shared a s new did.changes (λ u up. refl) (edit-paths cmp code key) most more (did.path most more (omega (arith, part-short a, short)) (omega (arith, part-short a, short')));
      came = λ most more short short'. down-made a s new did.changes (λ u up. refl) (edit-paths cmp code key) most more (did.came most more (omega (arith, part-short a, short)) (omega (arith, part-short a, short')));
      others = λ most short m live live' off. let away = down-off a s (edit-paths cmp code key) most m live off in did.others most (omega (arith, part-short a, short)) m away.1 live' away.2 ∙ away.0;
    }

  -- what a node there is
  pub cut-below-node : (i : ℕ) → IsSpot a.entries a.nodes (digit_at c d) (NodeAt i) → IsBelow cmp code (form_at old) (d + 1) (child_at old row i) P left c × (2 ≤ length P)
  cut-below-node i spot =
      let child = child_at old row i in
      (below-part cmp code (form_at old) left d row c child E a.can.below (place-is a (Node child) (at-node a i spot)) (omega arith), (stands a (Node child) (at-node a i spot)).0)

  -- below the only link more than one entry is left where it is below the row
  pub cut-only : IsTotalOrder cmp → (i : ℕ) → IsSpot a.entries a.nodes (digit_at c d) (NodeAt i) → (0 < d → 2 ≤ length (others cmp key E)) → 0 < d → length (links_at old row) ≡ 1 → 2 ≤ length (others cmp key (part cmp code d (digit_at c d) E))
  cut-only order i spot some deep one =
      let places = λ (q : ℕ) (low : q < 32). stands-at cmp code (form_at old) left d row q E (place_of a.entries a.nodes a.links q) a.can.below.trie (λ depth e n ks was. same-place-of (form_at old) row d a.entries a.nodes a.links depth e n ks q a.is was) low in
      let whole = all-below cmp code (form_at old) (λ k Q. IsTrie cmp code (form_at old) left (d + 1) k Q) d a.entries a.nodes a.links E a.is.sets places (digit_at c d) (omega arith) spot.1 (sym (ap length (row-links old row d a.entries a.nodes a.links a.is)) ∙ one) in
      subst (λ (Q : List (Entry T)). 2 ≤ length (others cmp key Q)) (sym whole) (some deep)

  -- an entry that is left there doesn't reach the row
  pub lone-apart : (lone : ℕ) (k : T) → others cmp key (part cmp code d (digit_at c d) E) ≡ entry k lone ∷ [] → IsEntry (form_at old) (entry k lone) → ¬ Reaches (links_at old) lone row
  lone-apart lone k one keyed way = no-back old a.can.graph row lone reached (λ same. not-row (form_at old) lone row d a.entries a.nodes a.links k keyed a.is.row (sym same)) way
    where
      reached : Reaches (links_at old) row lone
      reached =
          let R = λ (y : Entry T). Reaches (links_in (form_at old)) row y.link in
          let all = trie-reach cmp code (form_at old) (suc left) d row E a.can.below.trie in
          let some : All (λ (y : Entry T). Reaches (links_in (form_at old)) row y.link) (others cmp key P) = All-filter (λ y. not (has_key cmp key y)) R P (All-filter (λ y. nat_eq (digit_at (code y.key) d) (digit_at c d)) R E all) in
          let at : Reaches (links_in (form_at old)) row lone = (subst (All R) one some) 0 (entry k lone) (omega arith) in
          Reaches-by (links_in (form_at old)) (links_at old) (λ m. sym (links-form old m)) row lone at
