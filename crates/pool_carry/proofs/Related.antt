-- Rows that are related one to one, with related links, have one pool.
use Rattle.std.proofs.Common.{◌≡◌, ℕ, zero, suc, ◌+◌, refl, ap, sym, subst, ◌∙◌, arith, inl, inr, Bool, true, false, cond, ◌||◌, List, [], ◌∷◌, ◌++◌, map, flat_map, Option, Some, None, option_map}
use Rattle.std.specs.Prelude.{nat_eq}
use Rattle.std.specs.List.{AllZip, list_any, filter_map, cons_option}
use Rattle.std.proofs.lemmas.Bool.{cases_eq, eq-eqb, ne_eqb}
use Rattle.node_heap.specs.Forms.{Form, Forms, cell, node, links_of, links_in}
use Rattle.pool_order.specs.Order.{with_new, with_all_new, places, order}
use Rattle.pool_order.proofs.Places.{order-deep}
use Rattle.pool_text.specs.Rows.{Bytes}
use Rattle.pool_text.specs.Pool.{place_in, relink, Settings, pool}
use Rattle.pool_text.specs.Renaming.{IsRooted}
use Rattle.pool_text.specs.declared.pool.Pool.{Pool}

module _ (R : ℕ → ℕ → Type 0) where
  pub zip-append : (ks js ls ms : List ℕ) → AllZip R ks js → AllZip R ls ms → AllZip R (ks ++ ls) (js ++ ms)
  zip-append [] [] ls ms zip more = more
  zip-append [] (j ∷ js) ls ms zip more = absurd zip
  zip-append (k ∷ ks) [] ls ms zip more = absurd zip
  zip-append (k ∷ ks) (j ∷ js) ls ms zip more = (zip.0, zip-append ks js ls ms zip.1 more)

  zip-flat : (f g : ℕ → List ℕ) → ((k j : ℕ) → R k j → AllZip R (f k) (g j)) → (ks js : List ℕ) → AllZip R ks js → AllZip R (flat_map f ks) (flat_map g js)
  zip-flat f g each [] [] zip = tt
  zip-flat f g each [] (j ∷ js) zip = absurd zip
  zip-flat f g each (k ∷ ks) [] zip = absurd zip
  zip-flat f g each (k ∷ ks) (j ∷ js) zip = zip-append (f k) (g j) (flat_map f ks) (flat_map g js) (each k j zip.0) (zip-flat f g each ks js zip.1)

  -- two forms of one kind or one value, with related links
  abbrev pub Alike : Option (Form Bytes) → Option (Form Bytes) → Type 0
  Alike None None = Unit {0}
  Alike (Some (cell x)) (Some (cell y)) = x ≡ y
  Alike (Some (node kind links)) (Some (node other more)) = (kind ≡ other) × AllZip R links more
  Alike _ _ = ⊥

  links-alike : (r s : Option (Form Bytes)) → Alike r s → AllZip R (links_of r) (links_of s)
  links-alike None None alike = tt
  links-alike None (Some (cell y)) alike = absurd alike
  links-alike None (Some (node kind links)) alike = absurd alike
  links-alike (Some (cell x)) None alike = absurd alike
  links-alike (Some (cell x)) (Some (cell y)) alike = tt
  links-alike (Some (cell x)) (Some (node kind links)) alike = absurd alike
  links-alike (Some (node kind links)) None alike = absurd alike
  links-alike (Some (node kind links)) (Some (cell y)) alike = absurd alike
  links-alike (Some (node kind links)) (Some (node other more)) alike = alike.1

  module _ (there : (a b c : ℕ) → R a b → R a c → b ≡ c) (back : (a b c : ℕ) → R a c → R b c → a ≡ b) where
    eq-related : (a b k j : ℕ) → R a b → R k j → nat_eq a k ≡ nat_eq b j
    eq-related a b k j ab kj = elim (cases_eq a k) as (λ _. nat_eq a k ≡ nat_eq b j) [
      | inl same ↦ eq-eqb a k same ∙ sym (eq-eqb b j (there a b j ab (subst (λ x. R x j) (sym same) kj)))
      | inr other ↦ ne_eqb a k other ∙ sym (ne_eqb b j (λ same. other (back a k b ab (subst (R k) (sym same) kj))))
    ]

    any-related : (a b : ℕ) (ks js : List ℕ) → R a b → AllZip R ks js → list_any (nat_eq a) ks ≡ list_any (nat_eq b) js
    any-related a b [] [] ab zip = refl
    any-related a b [] (j ∷ js) ab zip = absurd zip
    any-related a b (k ∷ ks) [] ab zip = absurd zip
    any-related a b (k ∷ ks) (j ∷ js) ab zip = ap (λ t. t || list_any (nat_eq a) ks) (eq-related a b k j ab zip.0) ∙ ap (λ t. nat_eq b j || t) (any-related a b ks js ab zip.1)

    with_new-related : (ks js : List ℕ) (a b : ℕ) → AllZip R ks js → R a b → AllZip R (with_new ks a) (with_new js b)
    with_new-related ks js a b zip ab = subst (λ t. AllZip R (cond (list_any (nat_eq a) ks) ks (ks ++ a ∷ [])) (cond t js (js ++ b ∷ []))) (any-related a b ks js ab zip) (by_test (list_any (nat_eq a) ks))
      where
        by_test : (t : Bool) → AllZip R (cond t ks (ks ++ a ∷ [])) (cond t js (js ++ b ∷ []))
        by_test true = zip
        by_test false = zip-append ks js (a ∷ []) (b ∷ []) zip (ab, tt)

    with_all-related : (ks js xs ys : List ℕ) → AllZip R ks js → AllZip R xs ys → AllZip R (with_all_new ks xs) (with_all_new js ys)
    with_all-related ks js [] [] zip more = zip
    with_all-related ks js [] (y ∷ ys) zip more = absurd more
    with_all-related ks js (x ∷ xs) [] zip more = absurd more
    with_all-related ks js (x ∷ xs) (y ∷ ys) zip more = with_all-related (with_new ks x) (with_new js y) xs ys (with_new-related ks js x y zip more.0) more.1

    place-related : (ks js : List ℕ) (a b : ℕ) → AllZip R ks js → R a b → place_in ks a ≡ place_in js b
    place-related [] [] a b zip ab = refl
    place-related [] (j ∷ js) a b zip ab = absurd zip
    place-related (k ∷ ks) [] a b zip ab = absurd zip
    place-related (k ∷ ks) (j ∷ js) a b zip ab = by_test (nat_eq a k) (nat_eq b j) refl refl (eq-related a b k j ab zip.0) (place-related ks js a b zip.1 ab)
      where
        by_test : (s t : Bool) → nat_eq a k ≡ s → nat_eq b j ≡ t → nat_eq a k ≡ nat_eq b j → place_in ks a ≡ place_in js b → place_in (k ∷ ks) a ≡ place_in (j ∷ js) b
        by_test true true s t same rest = rw (s, t) refl
        by_test false false s t same rest = rw (s, t) (ap (λ n. 1 + n) rest)
        by_test true false s t same rest = absurd (let no : true ≡ false = sym s ∙ same ∙ t in cc)
        by_test false true s t same rest = absurd (let no : false ≡ true = sym s ∙ same ∙ t in cc)

    map-related : (ks js xs ys : List ℕ) → AllZip R ks js → AllZip R xs ys → map (place_in ks) xs ≡ map (place_in js) ys
    map-related ks js [] [] zip more = refl
    map-related ks js [] (y ∷ ys) zip more = absurd more
    map-related ks js (x ∷ xs) [] zip more = absurd more
    map-related ks js (x ∷ xs) (y ∷ ys) zip more = ap (λ i. i ∷ map (place_in ks) xs) (place-related ks js x y zip more.0) ∙ ap (λ is. place_in js y ∷ is) (map-related ks js xs ys zip more.1)

    relink-related : (ks js : List ℕ) (r s : Option (Form Bytes)) → AllZip R ks js → Alike r s → option_map (relink (place_in ks)) r ≡ option_map (relink (place_in js)) s
    relink-related ks js None None zip alike = refl
    relink-related ks js None (Some (cell y)) zip alike = absurd alike
    relink-related ks js None (Some (node kind links)) zip alike = absurd alike
    relink-related ks js (Some (cell x)) None zip alike = absurd alike
    relink-related ks js (Some (cell x)) (Some (cell y)) zip alike = ap (λ z. Some (cell z)) alike
    relink-related ks js (Some (cell x)) (Some (node kind links)) zip alike = absurd alike
    relink-related ks js (Some (node kind links)) None zip alike = absurd alike
    relink-related ks js (Some (node kind links)) (Some (cell y)) zip alike = absurd alike
    relink-related ks js (Some (node kind links)) (Some (node other more)) zip alike = ap (λ k. Some (node k (map (place_in ks) links))) alike.0 ∙ ap (λ is. Some (node other is)) (map-related ks js links more zip alike.1)

    module _ (G H : Forms Bytes) (alike : (a b : ℕ) → R a b → Alike (G a) (H b)) where
      places-related : (n a b : ℕ) → R a b → AllZip R (places n (links_in G) a) (places n (links_in H) b)
      unfolding places
      places-related zero a b ab = tt
      places-related (suc n) a b ab =
          zip-append (flat_map (places n (links_in G)) (links_in G a)) (flat_map (places n (links_in H)) (links_in H b)) (a ∷ []) (b ∷ [])
          (zip-flat (places n (links_in G)) (places n (links_in H)) (places-related n) (links_in G a) (links_in H b) (links-alike (G a) (H b) (alike a b ab))) (ab, tt)

      order-related : (n : ℕ) (roots tops : List ℕ) → AllZip R roots tops → AllZip R (order n (links_in G) roots) (order n (links_in H) tops)
      unfolding order
      order-related n roots tops zip =
          with_all-related [] [] (flat_map (places n (links_in G)) roots) (flat_map (places n (links_in H)) tops) tt (zip-flat (places n (links_in G)) (places n (links_in H)) (places-related n) roots tops zip)

      rows-related : (ks js xs ys : List ℕ) → AllZip R ks js → AllZip R xs ys → filter_map (λ k. option_map (relink (place_in ks)) (G k)) xs ≡ filter_map (λ j. option_map (relink (place_in js)) (H j)) ys
      rows-related ks js [] [] zip more = refl
      rows-related ks js [] (y ∷ ys) zip more = absurd more
      rows-related ks js (x ∷ xs) [] zip more = absurd more
      rows-related ks js (x ∷ xs) (y ∷ ys) zip more =
          ap (λ r. cons_option r (filter_map (λ k. option_map (relink (place_in ks)) (G k)) xs)) (relink-related ks js (G x) (H y) zip (alike x y more.0))
          ∙ ap (λ rs. cons_option (option_map (relink (place_in js)) (H y)) rs) (rows-related ks js xs ys zip more.1)

      -- related roots have one pool
      pub related-pools : (n m : ℕ) (roots tops : List ℕ) (settings : Settings) → IsRooted n G roots → IsRooted m H tops → AllZip R roots tops → pool n G roots settings ≡ pool m H tops settings
      unfolding pool
      related-pools n m roots tops settings rooted rooted' zip =
          let deep : order n (links_in G) roots ≡ order (n + m) (links_in G) roots = order-deep rooted.rank (links_in G) rooted.falls n (n + m) roots rooted.low (λ r root. omega (arith, rooted.low r root)) in
          let deep' : order m (links_in H) tops ≡ order (n + m) (links_in H) tops = order-deep rooted'.rank (links_in H) rooted'.falls m (n + m) tops rooted'.low (λ r root. omega (arith, rooted'.low r root)) in
          let orders : AllZip R (order n (links_in G) roots) (order m (links_in H) tops) =
          subst (λ ks. AllZip R ks (order m (links_in H) tops)) (sym deep) (subst (λ js. AllZip R (order (n + m) (links_in G) roots) js) (sym deep') (order-related (n + m) roots tops zip)) in
          pools (order n (links_in G) roots) (order m (links_in H) tops) orders
        where
          with : List (Form Bytes) → List ℕ → Pool
          with rows is = record { bits = settings.bits; version = settings.version; history = settings.history; rows = rows; roots = is }

          pools : (ks js : List ℕ) → AllZip R ks js
              → with (filter_map (λ k. option_map (relink (place_in ks)) (G k)) ks) (map (place_in ks) roots) ≡ with (filter_map (λ j. option_map (relink (place_in js)) (H j)) js) (map (place_in js) tops)
          pools ks js orders =
              ap (λ rs. with rs (map (place_in ks) roots)) (rows-related ks js ks js orders orders)
              ∙ ap (with (filter_map (λ j. option_map (relink (place_in js)) (H j)) js)) (map-related ks js roots tops orders zip)
