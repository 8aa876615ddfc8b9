-- The store of maps that bytes stand for, by what they say and by their damage.
use Rattle.std.proofs.Common.{◌≡◌, cond, List, Some, None, ap, ◌∙◌}
use Rattle.std.specs.Prelude.{true, false, is_some, option_and_then}
use Rattle.std.specs.Option.{option_or}
use Rattle.std.specs.declared.cmp.Ordering.{Ordering}
use Rattle.pool_text.specs.Rows.{Bytes}
use Rattle.pool_text.specs.Document.{value_in}
use Rattle.pool_text.specs.declared.damage.Damage.{Damage}
use Rattle.pool_text.specs.declared.damage.Damage.TheVariants.{Kind}
use Rattle.pool_check.specs.declared.root.RootKind.TheVariants.{CellMap}
use Rattle.versions.specs.Store.{Versions}
use Rattle.versions_pool.specs.Saved.{Saved, saved_document, saved_in_bytes}
use Rattle.versions_pool.specs.Stores.{store_damage, store_in, Says}
use Rattle.versions_pool.specs.Apart.{are_apart}
use Rattle.versions_pool.specs.Maps.{maps_format, both_damage, maps_damage, map_in, maps_in}
use Rattle.versions_pool.proofs.SavedBack.{bytes-back, bytes-whole}
use Rattle.versions_pool.proofs.StoresRead.{by-rows, says-read}

module _ (bytes : Bytes) where
  pub first-damage : (d : Damage) → store_damage maps_format CellMap bytes ≡ Some d → maps_damage bytes ≡ Some d
  first-damage d is = ap (λ o. option_or o (option_and_then both_damage (saved_in_bytes maps_format bytes))) is

  last-test : (s : Saved) → store_damage maps_format CellMap bytes ≡ None → saved_in_bytes maps_format bytes ≡ Some s → maps_damage bytes ≡ both_damage s
  last-test s whole is = ap (λ o. option_or o (option_and_then both_damage (saved_in_bytes maps_format bytes))) whole ∙ ap (option_and_then both_damage) is

  pub last-damage : (s : Saved) → store_damage maps_format CellMap bytes ≡ None → saved_in_bytes maps_format bytes ≡ Some s → are_apart s.rows ≡ false → maps_damage bytes ≡ Some Kind
  last-damage s whole is both = last-test s whole is ∙ ap (λ b. cond b None (Some Kind)) both

  pub no-damage : (s : Saved) → store_damage maps_format CellMap bytes ≡ None → saved_in_bytes maps_format bytes ≡ Some s → are_apart s.rows ≡ true → maps_damage bytes ≡ None
  no-damage s whole is apart = last-test s whole is ∙ ap (λ b. cond b None (Some Kind)) apart

  module _ {K V : Type 0} (cmp : K → K → Ordering) (of_key : Bytes → K) (of_value : Bytes → V) where
    pub no-maps : (d : Damage) → maps_damage bytes ≡ Some d → maps_in cmp of_key of_value bytes ≡ None
    no-maps d is = ap (λ o. cond (is_some o) None (store_in maps_format CellMap (map_in cmp of_key of_value) bytes)) is

    pub maps-are : (m : Versions (List (K × V))) → maps_damage bytes ≡ None → store_in maps_format CellMap (map_in cmp of_key of_value) bytes ≡ Some m → maps_in cmp of_key of_value bytes ≡ Some m
    maps-are m whole is = ap (λ o. cond (is_some o) None (store_in maps_format CellMap (map_in cmp of_key of_value) bytes)) whole ∙ is

    -- a document that says what a store has stands for the store
    pub maps-read : (m : Versions (List (K × V))) (s : Saved) → Says (map_in cmp of_key of_value) CellMap m s → are_apart s.rows ≡ true → value_in bytes ≡ Some (saved_document maps_format s) → maps_in cmp of_key of_value bytes ≡ Some m
    maps-read m s says apart value =
        let is = bytes-back maps_format s says.rise says.many says.few says.in_range bytes value in
        let whole = by-rows maps_format CellMap bytes s (bytes-whole maps_format s says.rise says.many says.few says.in_range bytes value) is ∙ says.undamaged in
        maps-are m (no-damage s whole is apart) (says-read maps_format CellMap bytes (map_in cmp of_key of_value) m s says value)
