-- Rows by their places, and one entry more.
use Rattle.std.proofs.Common.{◌≡◌, ℕ, ◌+◌, ◌<◌, refl, ap, sym, ◌∙◌, true, List, [], ◌∷◌, ◌++◌, length, map, take, get_or, append_assoc, Option, Some, None, option_map}
use Rattle.std.specs.List.{filter_map, cons_option}
use Rattle.std.proofs.lemmas.List.{map-append, take_more}
use Rattle.std.proofs.lemmas.List.Elements.{filter_map-append}
use Rattle.node_heap.specs.Forms.{Forms}
use Rattle.champ_chain.specs.Entry.{Entry}
use Rattle.pool_text.specs.Rows.{Bytes, row_form}
use Rattle.pool_text.specs.declared.row.Row.{Row}
use Rattle.pool_text.specs.declared.row.Row.TheVariants.{Cell, Leaf, Inner, Trie, Chain, Pair, State}
use Rattle.pool_check.specs.Tries.{entry_at}
use Rattle.pool_check.specs.Readings.{moved}
use Rattle.pool_check.proofs.TestLemmas.{not-both}
use Rattle.pool_carry.specs.Carried.{is_of_trie}

-- the entry at the next place comes after those of the places before it
pub entry-more : (F : Forms Bytes) (f : ℕ → ℕ) (places : List ℕ) (i : ℕ) → i < length places → (before now : List (Entry Bytes)) (e : Entry Bytes)
    → now ≡ before ++ map (moved f) (filter_map (entry_at F) (take i places)) → Some e ≡ option_map (moved f) (entry_at F (get_or places i 0))
    → now ++ e ∷ [] ≡ before ++ map (moved f) (filter_map (entry_at F) (take (i + 1) places))
entry-more F f places i low before now e so_far is =
    let first : List (Entry Bytes) = filter_map (entry_at F) (take i places) in
    let last : List (Entry Bytes) = filter_map (entry_at F) (get_or places i 0 ∷ []) in
    let split : filter_map (entry_at F) (take (i + 1) places) ≡ first ++ last = ap (filter_map (entry_at F)) (take_more places i 0 low) ∙ filter_map-append (entry_at F) (take i places) (get_or places i 0 ∷ []) in
    ap (λ es. es ++ e ∷ []) so_far
    ∙ append_assoc before (map (moved f) first) (e ∷ [])
    ∙ sym (ap (λ es. before ++ es) (ap (map (moved f)) split ∙ map-append (moved f) first last ∙ ap (λ es. map (moved f) first ++ es) (one (entry_at F (get_or places i 0)) is)))
  where
    one : (o : Option (Entry Bytes)) → Some e ≡ option_map (moved f) o → map (moved f) (cons_option o []) ≡ e ∷ []
    one None is = absurd cc
    one (Some d) is = let same : e ≡ moved f d = cc in ap (λ x. x ∷ []) (sym same)

-- a row of a trie is a trie row or a chain row
pub trie-or-chain : (row : Row) → is_of_trie (Some (row_form row)) ≡ true → ((depth entries nodes : ℕ) (links : List ℕ) → row ≡ Trie depth entries nodes links → ⊥) → ((links : List ℕ) → row ≡ Chain links → ⊥) → ⊥
trie-or-chain (Cell text) is not_trie not_chain = not-both is
trie-or-chain (Leaf links) is not_trie not_chain = not-both is
trie-or-chain (Inner height links) is not_trie not_chain = not-both is
trie-or-chain (Trie depth entries nodes links) is not_trie not_chain = not_trie depth entries nodes links refl
trie-or-chain (Chain links) is not_trie not_chain = not_chain links refl
trie-or-chain (Pair k v) is not_trie not_chain = not-both is
trie-or-chain (State buffers stars) is not_trie not_chain = not-both is
