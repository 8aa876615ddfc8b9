-- Values that are shown one behind another.
use Rattle.std.proofs.Common.{◌≡◌, ℕ, suc, ◌+◌, ◌<◌, ◌≤◌, List, [], ◌∷◌, ◌++◌, length, take, refl, sym, ap, ◌∙◌, ◌⊎◌, inl, inr, arith, length-append, length-take, append-nil, append_assoc}
use Rattle.std.specs.List.{sum_by}
use Rattle.std.proofs.lemmas.List.{length-map, map-append}
use Rattle.std.proofs.lemmas.List.Sums.{sum_by-append, sum_by-cons, sum_by_push}
use Rattle.champ_chain.specs.Entry.{SameSet, same_none, same_first, same_turned, same_through}
use Rattle.versions_c.specs.declared.fill.Place.{Place}
use Rattle.versions_c.specs.declared.form.Form.{Form}
use Rattle.versions_c.specs.declared.value.Value.{Value}
use Rattle.versions_c.specs.Values.{value_bytes, form_of}
use Rattle.versions_c.specs.Shown.{size, all_bytes, flat, HasTooLittle, StandBefore}

all-push : (xs : List Value) (x : Value) → all_bytes (xs ++ x ∷ []) ≡ all_bytes xs ++ value_bytes x
all-push [] x = append-nil (value_bytes x)
all-push (y ∷ ys) x = ap (λ bs. value_bytes y ++ bs) (all-push ys x) ∙ sym (append_assoc (value_bytes y) (all_bytes ys) (value_bytes x))

-- one more value behind those that are shown
pub behind : (xs : List Value) (x : Value) (at : Place) (b : ℕ) (forms forms' : List Form) (room room' : List ℕ) → StandBefore xs at forms room
    → take (at.count + 1) forms' ≡ take at.count forms ++ form_of x ∷ [] → b ≡ at.bytes + size x → take b room' ≡ take at.bytes room ++ value_bytes x → b ≤ length room'
    → StandBefore (xs ++ x ∷ []) (record { count = at.count + 1; bytes = b }) forms' room'
behind xs x at b forms forms' room room' is shows adds laid few =
    let many : length (xs ++ x ∷ []) ≡ at.count + 1 = omega (arith, is.count, length-append xs (x ∷ [])) in
    let total : sum_by size (xs ++ x ∷ []) ≡ b = omega (arith, adds, is.bytes, sum_by_push size xs x) in
    record {
      count = sym many;
      bytes = sym total;
      few = few;
      shown = record {
        forms = ap (λ n. take n forms') many ∙ shows ∙ ap (λ n. take n forms ++ form_of x ∷ []) is.count ∙ ap (λ fs. fs ++ form_of x ∷ []) is.shown.forms ∙ sym (map-append form_of xs (x ∷ []));
        bytes = ap (λ n. take n room') total ∙ laid ∙ ap (λ n. take n room ++ value_bytes x) is.bytes ∙ ap (λ bs. bs ++ value_bytes x) is.shown.bytes ∙ sym (all-push xs x);
      };
    }

-- none before the first
pub at-begin : (forms : List Form) (room : List ℕ) → StandBefore [] (record { count = 0; bytes = 0 }) forms room
at-begin forms room = record { count = refl; bytes = refl; few = omega arith; shown = record { forms = refl; bytes = refl } }

-- there is no room for one more
pub no-room : (xs : List Value) (x : Value) (at : Place) (forms : List Form) (room : List ℕ) → StandBefore xs at forms room → (length forms ≤ at.count) ⊎ (length room < at.bytes + size x) → HasTooLittle (xs ++ x ∷ []) (length forms) (length room)
no-room xs x at forms room is (inl full) = inl (omega (arith, full, is.count, length-append xs (x ∷ [])))
no-room xs x at forms room is (inr full) = inr (omega (arith, full, is.bytes, sum_by_push size xs x))

-- what is shown has room
pub enough : (xs : List Value) (at : Place) (forms : List Form) (room : List ℕ) → StandBefore xs at forms room → HasTooLittle xs (length forms) (length room) → ⊥
enough xs at forms room is (inl few) = omega (arith, few, length-take (length xs) forms, ap length is.shown.forms, length-map xs form_of)
enough xs at forms room is (inr few) = omega (arith, few, is.few, is.bytes)

-- too little for some is too little for all
pub too-little-front : (xs ys all : List Value) (f r : ℕ) → all ≡ xs ++ ys → HasTooLittle xs f r → HasTooLittle all f r
too-little-front xs ys all f r is (inl few) = inl (omega (arith, few, ap length is, length-append xs ys))
too-little-front xs ys all f r is (inr few) = inr (omega (arith, few, ap (sum_by size) is, sum_by-append size xs ys))

pub too-little-more : (xs : List Value) (x : Value) (f r : ℕ) → HasTooLittle xs f r → HasTooLittle (xs ++ x ∷ []) f r
too-little-more xs x f r (inl few) = inl (omega (arith, few, length-append xs (x ∷ [])))
too-little-more xs x f r (inr few) = inr (omega (arith, few, sum_by_push size xs x))

module _ {X : Type 0} (weight : X → ℕ) where
  -- what values weigh together doesn't go by their order
  pub same-weight : (xs ys : List X) → SameSet xs ys → sum_by weight xs ≡ sum_by weight ys
  same-weight _ _ same_none = refl
  same-weight _ _ (same_first x xs ys same) = omega (arith, same-weight xs ys same, sum_by-cons weight x xs, sum_by-cons weight x ys)
  same-weight _ _ (same_turned x y xs) = omega (arith, sum_by-cons weight x (y ∷ xs), sum_by-cons weight y xs, sum_by-cons weight y (x ∷ xs), sum_by-cons weight x xs)
  same-weight _ _ (same_through xs ys zs one other) = same-weight xs ys one ∙ same-weight ys zs other

  pub same-many : (xs ys : List X) → SameSet xs ys → length xs ≡ length ys
  same-many _ _ same_none = refl
  same-many _ _ (same_first x xs ys same) = ap suc (same-many xs ys same)
  same-many _ _ (same_turned x y xs) = refl
  same-many _ _ (same_through xs ys zs one other) = same-many xs ys one ∙ same-many ys zs other

pub too-little-same : (xs ys : List Value) (f r : ℕ) → SameSet xs ys → HasTooLittle xs f r → HasTooLittle ys f r
too-little-same xs ys f r same (inl few) = inl (omega (arith, few, same-many size xs ys same))
too-little-same xs ys f r same (inr few) = inr (omega (arith, few, same-weight size xs ys same))

pub too-little-back : (xs ys : List Value) (f r : ℕ) → SameSet xs ys → HasTooLittle ys f r → HasTooLittle xs f r
too-little-back xs ys f r same (inl few) = inl (omega (arith, few, same-many size xs ys same))
too-little-back xs ys f r same (inr few) = inr (omega (arith, few, same-weight size xs ys same))

-- forms and room stay as long as they are
pub too-little-at : (xs : List Value) (f f' r r' : ℕ) → f ≡ f' → r ≡ r' → HasTooLittle xs f r → HasTooLittle xs f' r'
too-little-at xs f f' r r' forms room (inl few) = inl (omega (arith, few, forms))
too-little-at xs f f' r r' forms room (inr few) = inr (omega (arith, few, room))

-- keys and values by turns
pub flat-push : (es : List (Value × Value)) (e : Value × Value) → flat (es ++ e ∷ []) ≡ (flat es ++ e.0 ∷ []) ++ e.1 ∷ []
flat-push [] e = refl
flat-push (d ∷ es) e = ap (λ xs. d.0 ∷ d.1 ∷ xs) (flat-push es e)

abbrev pair_size : Value × Value → ℕ
pair_size e = size e.0 + size e.1

flat-size : (es : List (Value × Value)) → sum_by size (flat es) ≡ sum_by pair_size es
flat-size [] = refl
flat-size (e ∷ es) = omega (arith, flat-size es, sum_by-cons size e.0 (e.1 ∷ flat es), sum_by-cons size e.1 (flat es), sum_by-cons pair_size e es)

flat-many : (es : List (Value × Value)) → length (flat es) ≡ length es + length es
flat-many [] = refl
flat-many (e ∷ es) = omega (arith, flat-many es)

pub same-flat : (es ds : List (Value × Value)) → SameSet es ds → length (flat es) ≡ length (flat ds)
same-flat es ds same = omega (arith, flat-many es, flat-many ds, same-many pair_size es ds same)

pub too-little-flat : (es ds : List (Value × Value)) (f r : ℕ) → SameSet es ds → HasTooLittle (flat es) f r → HasTooLittle (flat ds) f r
too-little-flat es ds f r same (inl few) = inl (omega (arith, few, same-flat es ds same))
too-little-flat es ds f r same (inr few) = inr (omega (arith, few, flat-size es, flat-size ds, same-weight pair_size es ds same))

pub too-little-flat-back : (es ds : List (Value × Value)) (f r : ℕ) → SameSet es ds → HasTooLittle (flat ds) f r → HasTooLittle (flat es) f r
too-little-flat-back es ds f r same (inl few) = inl (omega (arith, few, same-flat es ds same))
too-little-flat-back es ds f r same (inr few) = inr (omega (arith, few, flat-size es, flat-size ds, same-weight pair_size es ds same))

flat-append : (es ds : List (Value × Value)) → flat (es ++ ds) ≡ flat es ++ flat ds
flat-append [] ds = refl
flat-append (e ∷ es) ds = ap (λ xs. e.0 ∷ e.1 ∷ xs) (flat-append es ds)

pub too-little-entries : (es ds all : List (Value × Value)) (f r : ℕ) → all ≡ es ++ ds → HasTooLittle (flat es) f r → HasTooLittle (flat all) f r
too-little-entries es ds all f r is few = too-little-front (flat es) (flat ds) (flat all) f r (ap flat is ∙ flat-append es ds) few

-- the items so far, one more, and the rest
pub one-on : {X : Type 0} (all xs before after : List X) (x : X) → all ≡ xs ++ before → before ≡ x ∷ after → all ≡ (xs ++ x ∷ []) ++ after
one-on all xs before after x is more = is ∙ ap (λ ys. xs ++ ys) more ∙ sym (append_assoc xs (x ∷ []) after)

-- all of them
pub none-on : {X : Type 0} (all xs rest : List X) → all ≡ xs ++ rest → rest ≡ [] → xs ≡ all
none-on all xs rest is done = sym (is ∙ ap (λ ys. xs ++ ys) done ∙ append-nil xs)
