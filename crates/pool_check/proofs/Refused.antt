-- The first of the tests `Link` to `Trie`, and of those that follow them, that a pool fails.
use Rattle.std.proofs.Common.{◌≡◌, true, false, ◌&&◌, Some, None, List, [], ◌∷◌, refl}
use Rattle.std.specs.List.{list_all}
use Rattle.pool_text.specs.Rows.{is_in_range_to}
use Rattle.pool_text.specs.Rules.{Rules}
use Rattle.pool_text.specs.declared.pool.Pool.{Pool}
use Rattle.pool_text.specs.declared.damage.Damage.{Damage}
use Rattle.pool_text.specs.declared.damage.Damage.TheVariants.{Link, Text, Vector, Trie, Kind, Order}
use Rattle.pool_check.specs.Rows.{rows_in_range_by, links_lead_back, texts_are_lines}
use Rattle.pool_check.specs.Vectors.{vectors_stand}
use Rattle.pool_check.specs.Tries.{tries_stand_by}
use Rattle.pool_check.specs.Kinds.{roots_are_of_kind, undo_fits}
use Rattle.pool_check.specs.Roots.{roots_are_of}
use Rattle.pool_check.specs.declared.root.RootKind.{RootKind}
use Rattle.pool_check.specs.Damages.{rows_in_order, row_tests, row_damage, RowsPass, open_damage, damage_with_roots}
use Rattle.pool_check.proofs.DamageLemmas.{fails-first}

module _ (rules : Rules) (P : Pool) where
  pub in-range : list_all (is_in_range_to rules.deepest) P.rows ≡ true → rows_in_range_by rules P ≡ true
  unfolding rows_in_range_by
  in-range rows = rows

  -- of the rows alone
  pub fails-link : links_lead_back P ≡ false → row_damage rules P ≡ Some Link
  unfolding row_damage
  fails-link fails = rw fails refl

  module _ (links : links_lead_back P ≡ true) where
    pub fails-text : texts_are_lines P ≡ false → row_damage rules P ≡ Some Text
    unfolding row_damage
    fails-text fails = rw (links, fails) refl

    module _ (texts : texts_are_lines P ≡ true) where
      pub fails-vector : vectors_stand P ≡ false → row_damage rules P ≡ Some Vector
      unfolding row_damage
      fails-vector fails = rw (links, texts, fails) refl

      pub fails-trie : vectors_stand P ≡ true → tries_stand_by rules P ≡ false → row_damage rules P ≡ Some Trie
      unfolding row_damage
      fails-trie vectors fails = rw (links, texts, vectors, fails) refl

  -- what fails of them fails of all
  pub row-fails : (d : Damage) → row_damage rules P ≡ Some d → open_damage rules P ≡ Some d
  unfolding row_damage open_damage
  row-fails d h = fails-first (row_tests rules P) ((roots_are_of_kind P && undo_fits P, Kind) ∷ []) d h

  pub row-fails-with : (kinds : List RootKind) (d : Damage) → row_damage rules P ≡ Some d → damage_with_roots rules kinds P ≡ Some d
  unfolding row_damage damage_with_roots
  row-fails-with kinds d h = fails-first (row_tests rules P) ((roots_are_of kinds P, Kind) ∷ (rows_in_order P, Order) ∷ []) d h

  module _ (rows : RowsPass rules P) where
    -- of a space
    pub fails-kind : roots_are_of_kind P ≡ false → open_damage rules P ≡ Some Kind
    unfolding open_damage
    fails-kind fails = rw (rows.lead_back, rows.lines, rows.vectors, rows.tries, fails) refl

    module _ (kinds : roots_are_of_kind P ≡ true) where
      pub fails-fits : undo_fits P ≡ false → open_damage rules P ≡ Some Kind
      unfolding open_damage
      fails-fits fails = rw (rows.lead_back, rows.lines, rows.vectors, rows.tries, kinds, fails) refl

      pub fails-none : undo_fits P ≡ true → open_damage rules P ≡ None
      unfolding open_damage
      fails-none fits = rw (rows.lead_back, rows.lines, rows.vectors, rows.tries, kinds, fits) refl

    -- of roots of these kinds
    module _ (given : List RootKind) where
      pub roots-fail : roots_are_of given P ≡ false → damage_with_roots rules given P ≡ Some Kind
      unfolding damage_with_roots
      roots-fail fails = rw (rows.lead_back, rows.lines, rows.vectors, rows.tries, fails) refl

      module _ (are : roots_are_of given P ≡ true) where
        pub order-fails-with : rows_in_order P ≡ false → damage_with_roots rules given P ≡ Some Order
        unfolding damage_with_roots
        order-fails-with fails = rw (rows.lead_back, rows.lines, rows.vectors, rows.tries, are, fails) refl

        pub none-fails-with : rows_in_order P ≡ true → damage_with_roots rules given P ≡ None
        unfolding damage_with_roots
        none-fails-with ordered = rw (rows.lead_back, rows.lines, rows.vectors, rows.tries, are, ordered) refl
