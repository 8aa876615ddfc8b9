-- Rows under other links have the pool of the old ones.
use Rattle.std.proofs.Common.{◌≡◌, ℕ, ◌+◌, ◌<◌, Option, Some, None, option_map, List, [], ◌∷◌, map, refl, ap, sym, ◌∙◌, arith, inl, inr}
use Rattle.std.specs.List.{filter_map, cons_option, flat_map}
use Rattle.std.proofs.lemmas.Bool.{cases_eq}
use Rattle.node_heap.specs.Links.{Links, count, Reaches, here}
use Rattle.node_heap.specs.Forms.{Form, Forms, cell, node, links_of, links_in}
use Rattle.node_heap.proofs.Counts.{test_same, count-cons}
use Rattle.node_heap.proofs.Reach.{Reaches-then}
use Rattle.pool_order.specs.Order.{places, order}
use Rattle.pool_order.specs.Laws.{IsOrder}
use Rattle.pool_order.proofs.Places.{flat_map-found, places-reached, order-deep}
use Rattle.pool_text.specs.Rows.{Bytes}
use Rattle.pool_text.specs.Pool.{place_in, relink, Settings, pool}
use Rattle.pool_text.specs.Renaming.{IsRenamed, IsRooted}
use Rattle.pool_text.proofs.Gathered.{made}
use Rattle.pool_text.proofs.Placed.{place-first, place-later}
use Rattle.pool_text.proofs.Renamed.{renamed-links, renamed-below}
use Rattle.pool_text.proofs.PoolRows.{order-of-pool}
use Rattle.pool_text.proofs.Ordered.{AreLinked, IsOneToOne, order-renamed}

-- new links that are turned in turn
map-twice : (f p q : ℕ → ℕ) (ks : List ℕ) → ((k : ℕ) → 0 < count k ks → q (f k) ≡ p k) → map q (map f ks) ≡ map p ks
map-twice f p q [] each = refl
map-twice f p q (k ∷ ks) each =
    ap (λ y. y ∷ map q (map f ks)) (each k (omega (arith, count-cons k k ks, test_same k k refl)))
    ∙ ap (λ ys. p k ∷ ys) (map-twice f p q ks (λ j some. each j (omega (arith, count-cons j k ks, some))))

relink-twice : {K : Type 0} (f p q : ℕ → ℕ) (r : Option (Form K)) → ((k : ℕ) → 0 < count k (links_of r) → q (f k) ≡ p k) → option_map (relink q) (option_map (relink f) r) ≡ option_map (relink p) r
relink-twice f p q None each = refl
relink-twice f p q (Some (cell x)) each = refl
relink-twice f p q (Some (node kind links)) each = ap (λ ks. Some (node kind ks)) (map-twice f p q links each)

rows-turned : {X : Type 0} (new old : ℕ → Option X) (f : ℕ → ℕ) (ks : List ℕ) → ((k : ℕ) → 0 < count k ks → new (f k) ≡ old k) → filter_map new (map f ks) ≡ filter_map old ks
rows-turned new old f [] each = refl
rows-turned new old f (k ∷ ks) each =
    ap (λ o. cons_option o (filter_map new (map f ks))) (each k (omega (arith, count-cons k k ks, test_same k k refl)))
    ∙ ap (λ ys. cons_option (old k) ys) (rows-turned new old f ks (λ j some. each j (omega (arith, count-cons j k ks, some))))

-- a new link stands among the new ones where the old one stood
place-turned : (f g : ℕ → ℕ) (ks : List ℕ) (k : ℕ) → ((j : ℕ) → 0 < count j ks → g (f j) ≡ j) → g (f k) ≡ k → place_in (map f ks) (f k) ≡ place_in ks k
place-turned f g [] k each at = refl
place-turned f g (j ∷ js) k each at = elim (cases_eq k j) as (λ _. place_in (f j ∷ map f js) (f k) ≡ place_in (j ∷ js) k) [
  | inl same ↦ place-first (f k) (f j) (map f js) (ap f same) ∙ sym (place-first k j js same)
  | inr other ↦
      place-later (f k) (f j) (map f js) (λ e. other (sym at ∙ ap g e ∙ each j (omega (arith, count-cons j j js, test_same j j refl))))
      ∙ ap (λ i. 1 + i) (place-turned f g js k (λ i some. each i (omega (arith, count-cons i j js, some))) at)
      ∙ sym (place-later k j js other)
]

module _ (n m : ℕ) (f g : ℕ → ℕ) (G H : Forms Bytes) (roots : List ℕ) (rooted : IsRooted n G roots) (rooted' : IsRooted m H (map f roots))
    (image : (r : ℕ) → 0 < count r roots → IsRenamed f G H r) (back : (r l : ℕ) → 0 < count r roots → Reaches (links_in G) r l → g (f l) ≡ l) where
  abbrev listed : List ℕ
  listed = order n (links_in G) roots

  is : IsOrder (links_in G) roots listed
  is = order-of-pool n G roots rooted

  back-listed : (k : ℕ) → 0 < count k listed → g (f k) ≡ k
  back-listed k some = let from = is.reached k some in back from.0 k from.1 from.2

  order-turned : order m (links_in H) (map f roots) ≡ map f listed
  order-turned =
      let L : Links = links_in G in
      let M : Links = links_in H in
      let N : ℕ = n + m in
      let linked : (r : ℕ) → 0 < count r roots → AreLinked f L M r = λ r root k down. renamed-links f G H k (renamed-below f G H r k down (image r root)) in
      let back_at : (k : ℕ) → 0 < count k (flat_map (places N L) roots) → g (f k) ≡ k =
      λ k some. let found = flat_map-found (places N L) roots k some in back found.0 k found.1 (places-reached N L found.0 k found.2) in
      let one : IsOneToOne f (flat_map (places N L) roots) = λ a b in_a in_b e. sym (back_at a in_a) ∙ ap g e ∙ back_at b in_b in
      order-deep rooted'.rank M rooted'.falls m N (map f roots) rooted'.low (λ r root. omega (arith, rooted'.low r root))
      ∙ order-renamed f L M N roots linked one
      ∙ ap (map f) (order-deep rooted.rank L rooted.falls N n roots (λ r root. omega (arith, rooted.low r root)) rooted.low)

  row-turned : (k : ℕ) → 0 < count k listed → option_map (relink (place_in (map f listed))) (H (f k)) ≡ option_map (relink (place_in listed)) (G k)
  row-turned k some =
      let from = is.reached k some in
      ap (option_map (relink (place_in (map f listed)))) (image from.0 from.1 k from.2)
      ∙ relink-twice f (place_in listed) (place_in (map f listed)) (G k)
      (λ j has. place-turned f g listed j back-listed (back from.0 j from.1 (Reaches-then (links_in G) from.0 k j from.2 has)))

  pub one-pool : (settings : Settings) → pool m H (map f roots) settings ≡ pool n G roots settings
  unfolding pool
  one-pool settings =
      ap (λ (ks : List ℕ). made settings (filter_map (λ k. option_map (relink (place_in ks)) (H k)) ks) (map (place_in ks) (map f roots))) order-turned
      ∙ ap (λ (rows : List (Form Bytes)). made settings rows (map (place_in (map f listed)) (map f roots)))
      (rows-turned (λ k. option_map (relink (place_in (map f listed))) (H k)) (λ k. option_map (relink (place_in listed)) (G k)) f listed row-turned)
      ∙ ap (λ (ks : List ℕ). made settings (filter_map (λ k. option_map (relink (place_in listed)) (G k)) listed) ks)
      (map-twice f (place_in listed) (place_in (map f listed)) roots (λ r root. place-turned f g listed r back-listed (back r r root (here r))))
