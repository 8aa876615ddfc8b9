-- The store that bytes stand for, by what they say and by their damage.
use Rattle.std.proofs.Common.{◌≡◌, ◌≢◌, ℕ, cond, List, map, Option, Some, None, Result, Ok, Err, refl, ap, sym, subst, ◌∙◌}
use Rattle.std.specs.Result.{IsErrAnd, IfErr}
use Rattle.std.specs.Prelude.{is_some, option_map, option_and_then}
use Rattle.std.specs.List.{zip}
use Rattle.std.specs.FinMap.{from_entries}
use Rattle.std.specs.Option.{option_or}
use Rattle.pool_text.specs.Rows.{Bytes}
use Rattle.pool_text.specs.declared.pool.Pool.{Pool}
use Rattle.pool_text.specs.declared.damage.Damage.{Damage}
use Rattle.pool_text.specs.declared.damage.Damage.TheVariants.{Json, Form, Version, Bits, Row, Link, Text, Vector, Trie, Kind, Order, Memory}
use Rattle.pool_text.specs.Document.{value_in}
use Rattle.pool_check.specs.declared.root.RootKind.{RootKind}
use Rattle.versions.specs.Store.{Versions}
use Rattle.versions_pool.specs.Saved.{Saved, saved_document, saved_in_bytes, bytes_damage}
use Rattle.versions_pool.specs.Stores.{saved_damage, store_damage, values_of, store_in, Says}
use Rattle.versions_pool.specs.Loading.{AreSaid}
use Rattle.versions_pool.proofs.SavedBack.{bytes-back, bytes-whole}

module _ (format : Bytes) (kind : RootKind) (bytes : Bytes) where
  pub bytes-damaged : (d : Damage) → bytes_damage format bytes ≡ Some d → store_damage format kind bytes ≡ Some d
  unfolding store_damage
  bytes-damaged d is = ap (λ o. option_or o (option_and_then (saved_damage kind) (saved_in_bytes format bytes))) is

  pub by-rows : (s : Saved) → bytes_damage format bytes ≡ None → saved_in_bytes format bytes ≡ Some s → store_damage format kind bytes ≡ saved_damage kind s
  unfolding store_damage
  by-rows s whole is = ap (λ o. option_or o (option_and_then (saved_damage kind) (saved_in_bytes format bytes))) whole ∙ ap (option_and_then (saved_damage kind)) is

  module _ {V : Type 0} (read : Pool → ℕ → V) where
    pub none-read : (d : Damage) → store_damage format kind bytes ≡ Some d → store_in format kind read bytes ≡ None
    unfolding store_in
    none-read d is = ap (λ o. cond (is_some o) None (option_map (values_of read) (saved_in_bytes format bytes))) is

    pub values-read : (s : Saved) → store_damage format kind bytes ≡ None → saved_in_bytes format bytes ≡ Some s → store_in format kind read bytes ≡ Some (values_of read s)
    unfolding store_in
    values-read s whole is = ap (λ o. cond (is_some o) None (option_map (values_of read) (saved_in_bytes format bytes))) whole ∙ ap (option_map (values_of read)) is

    -- a document that says what a store has stands for the store
    pub says-read : (values : Versions V) (s : Saved) → Says read kind values s → value_in bytes ≡ Some (saved_document format s) → store_in format kind read bytes ≡ Some values
    says-read values s says value =
        let is = bytes-back format s says.rise says.many says.few says.in_range bytes value in
        values-read s (by-rows s (bytes-whole format s says.rise says.many says.few says.in_range bytes value) is ∙ says.undamaged) is
        ∙ ap (λ (m : Versions V). Some m) says.stands

    -- what was read of bytes is the store that they stand for
    pub said-read : (names : List ℕ) (P : Pool) → AreSaid format kind bytes names P → store_in format kind read bytes ≡ Some (from_entries (zip names (map (read P) P.roots)))
    said-read names P is =
        values-read (record { names = names; roots = P.roots; rows = P.rows }) is.whole is.said
        ∙ ap (λ (Q : Pool). Some (from_entries (zip names (map (read Q) P.roots)))) (sym is.pool)

-- that there is no store is handed on
pub none-handed-on : {A X : Type 0} (r : Result A Damage) (e : Damage) (found : Option X) → IsErrAnd r (λ f. f ≡ e) → (e ≢ Memory → found ≡ None) → IfErr r (λ f. f ≢ Memory → found ≡ None)
none-handed-on (Ok a) e found is none = absurd is
none-handed-on (Err f) e found is none = subst (λ g. g ≢ Memory → found ≡ None) (sym is) none

-- a damage that is nothing but want of memory
pub only-memory : (d : Damage) → (d ≢ Memory → ⊥) → d ≡ Memory
only-memory Json none = absurd (none (λ e. absurd (let f : Json ≡ Memory = e in cc)))
only-memory Form none = absurd (none (λ e. absurd (let f : Form ≡ Memory = e in cc)))
only-memory Version none = absurd (none (λ e. absurd (let f : Version ≡ Memory = e in cc)))
only-memory Bits none = absurd (none (λ e. absurd (let f : Bits ≡ Memory = e in cc)))
only-memory Row none = absurd (none (λ e. absurd (let f : Row ≡ Memory = e in cc)))
only-memory Link none = absurd (none (λ e. absurd (let f : Link ≡ Memory = e in cc)))
only-memory Text none = absurd (none (λ e. absurd (let f : Text ≡ Memory = e in cc)))
only-memory Vector none = absurd (none (λ e. absurd (let f : Vector ≡ Memory = e in cc)))
only-memory Trie none = absurd (none (λ e. absurd (let f : Trie ≡ Memory = e in cc)))
only-memory Kind none = absurd (none (λ e. absurd (let f : Kind ≡ Memory = e in cc)))
only-memory Order none = absurd (none (λ e. absurd (let f : Order ≡ Memory = e in cc)))
only-memory Memory none = refl
