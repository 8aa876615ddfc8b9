-- Vectors whose rows stand under new links: the elements, and the fill rule.
use Rattle.std.proofs.Common.{◌≡◌, ℕ, zero, suc, ◌-◌, ◌<◌, ◌≤◌, Bool, true, false, List, Some, option_map, map, length, take, refl, ap, sym, subst, ◌∙◌, arith}
use Rattle.std.specs.List.{All, flat_map}
use Rattle.std.proofs.lemmas.List.{length-map, take-map}
use Rattle.std.proofs.lemmas.List.Elements.{All-map, All-take}
use Rattle.std.proofs.lemmas.List.Folds.{flat_map-map}
use Rattle.node_heap.specs.Links.{count}
use Rattle.node_heap.specs.Forms.{Form, Forms, cell, node, leaf, inner, trie, chain, pair, state, links_of, links_in}
use Rattle.rrb_core.specs.Seq.{form_height, height_in, seq_at, seq, IsThick, IsWell, IsWellShaped}
use Rattle.rrb_core.proofs.LinkCounts.{all-counted}
use Rattle.pool_order.proofs.Places.{flat_map-same}
use Rattle.pool_text.specs.Rows.{Bytes}
use Rattle.pool_text.specs.Rules.{Rules}
use Rattle.pool_text.specs.Pool.{forms_in, relink}
use Rattle.pool_text.specs.declared.pool.Pool.{Pool}
use Rattle.pool_text.proofs.Ordered.{map-flat}
use Rattle.pool_check.proofs.PoolLaws.{get-low}
use Rattle.pool_check.proofs.VectorReadings.{map-twice, all-at}
use Rattle.pool_carry.specs.Carried.{is_of_trie, AreImages}

-- links changed twice
pub relink-twice : (f h : ℕ → ℕ) (r : Form Bytes) → relink h (relink f r) ≡ relink (λ l. h (f l)) r
relink-twice f h (cell x) = refl
relink-twice f h (node kind links) = ap (node kind) (map-twice h f links)

-- a row of a vector: a leaf or an inner row
abbrev pub is_of_vector : {K : Type 0} → Form K → Bool
is_of_vector (node leaf _) = true
is_of_vector (node (inner _) _) = true
is_of_vector _ = false

-- each row of a vector of F stands in G under its new link, with new links
abbrev pub VectorsStand : (ℕ → ℕ) → Forms Bytes → Forms Bytes → Type 0
VectorsStand f F G = (l : ℕ) (row : Form Bytes) → F l ≡ Some row → is_of_vector row ≡ true → G (f l) ≡ Some (relink f row)

-- each row of F that is none of a trie stands in G under its new link, with new links
abbrev pub OwnStand : (ℕ → ℕ) → Forms Bytes → Forms Bytes → Type 0
OwnStand f F G = (l : ℕ) (row : Form Bytes) → F l ≡ Some row → is_of_trie (Some row) ≡ false → G (f l) ≡ Some (relink f row)

-- a row of a vector is none of a trie
pub vector-own : (row : Form Bytes) → is_of_vector row ≡ true → is_of_trie (Some row) ≡ false
vector-own (cell text) is = refl
vector-own (node leaf links) is = refl
vector-own (node (inner height) links) is = refl
vector-own (node (trie d e n) links) is = cc
vector-own (node chain links) is = cc
vector-own (node pair links) is = refl
vector-own (node state links) is = refl

-- and then each row of a vector does
pub own-vectors : (f : ℕ → ℕ) (F G : Forms Bytes) → OwnStand f F G → VectorsStand f F G
own-vectors f F G own l row is vector = own l row is (vector-own row vector)

-- so stand the images of a pool's own rows
pub own-stand : (rules : Rules) (bits : ℕ) (P : Pool) (f : ℕ → ℕ) (G : Forms Bytes) → AreImages rules bits P f G → OwnStand f (forms_in P) G
own-stand rules bits P f G images l row is none = images.own l (get-low P.rows l row is) (ap is_of_trie is ∙ none) ∙ ap (option_map (relink f)) is

-- what is so of all links is so of the new ones, where it follows for each
all-image : (R S : ℕ → Type 0) (f : ℕ → ℕ) (ks : List ℕ) → ((k : ℕ) → 0 < count k ks → R k → S (f k)) → All R ks → All S (map f ks)
all-image R S f ks each all = All-map S f ks (all-counted (λ k. S (f k)) ks (λ k some. each k some (all-at R ks all k some)))

front-map : (f : ℕ → ℕ) (ks : List ℕ) → take (length (map f ks) - 1) (map f ks) ≡ map f (take (length ks - 1) ks)
front-map f ks = ap (λ n. take (n - 1) (map f ks)) (length-map ks f) ∙ take-map f (length ks - 1) ks

module _ (f : ℕ → ℕ) (F G : Forms Bytes) (own : VectorsStand f F G) where
  -- the row of a vector at this height
  row-stands : (n l : ℕ) → IsWell F n l → G (f l) ≡ option_map (relink f) (F l)
  unfolding IsWell
  row-stands zero l well = own l (node leaf (links_in F l)) well.kind refl ∙ ap (option_map (relink f)) (sym well.kind)
  row-stands (suc n) l well = own l (node (inner (suc n)) (links_in F l)) well.kind refl ∙ ap (option_map (relink f)) (sym well.kind)

  links-stand : (n l : ℕ) → IsWell F n l → links_in G (f l) ≡ map f (links_in F l)
  unfolding IsWell
  links-stand zero l well = ap links_of (own l (node leaf (links_in F l)) well.kind refl)
  links-stand (suc n) l well = ap links_of (own l (node (inner (suc n)) (links_in F l)) well.kind refl)

  height-stands : (n l : ℕ) → IsWell F n l → height_in G (f l) ≡ height_in F l
  unfolding IsWell
  height-stands zero l well = ap form_height (own l (node leaf (links_in F l)) well.kind refl) ∙ sym (ap form_height well.kind)
  height-stands (suc n) l well = ap form_height (own l (node (inner (suc n)) (links_in F l)) well.kind refl) ∙ sym (ap form_height well.kind)

  same-length : (n l : ℕ) → IsWell F n l → length (links_in G (f l)) ≡ length (links_in F l)
  same-length n l well = ap length (links-stand n l well) ∙ length-map (links_in F l) f

  seq-stands : (n l : ℕ) → IsWell F n l → seq_at G n (f l) ≡ map f (seq_at F n l)
  unfolding IsWell seq_at
  seq-stands zero l well = links-stand zero l well
  seq-stands (suc n) l well =
      ap (flat_map (seq_at G n)) (links-stand (suc n) l well) ∙ flat_map-map (seq_at G n) f (links_in F l)
      ∙ flat_map-same (λ k. seq_at G n (f k)) (λ k. map f (seq_at F n k)) (links_in F l) (λ k some. seq-stands n k (all-at (IsWell F n) (links_in F l) well.children k some))
      ∙ sym (map-flat f (seq_at F n) (links_in F l))

  thick-stands : (n l : ℕ) → IsWell F n l → IsThick F n l → IsThick G n (f l)
  unfolding IsWell IsThick
  thick-stands zero l well thick = omega (arith, thick, same-length zero l well)
  thick-stands (suc n) l well thick = (
    omega (arith, thick.0, same-length (suc n) l well),
    subst (All (IsThick G n)) (sym (links-stand (suc n) l well))
        (all-image (IsThick F n) (IsThick G n) f (links_in F l) (λ k some is. thick-stands n k (all-at (IsWell F n) (links_in F l) well.children k some) is) thick.1),
  )

  well-stands : (n l : ℕ) → IsWell F n l → IsWell G n (f l)
  unfolding IsWell
  well-stands zero l well = record {
    kind = own l (node leaf (links_in F l)) well.kind refl ∙ ap (λ ks. Some (node leaf ks)) (sym (links-stand zero l well));
    most = omega (arith, well.most, same-length zero l well);
  }
  well-stands (suc n) l well =
      let links : links_in G (f l) ≡ map f (links_in F l) = links-stand (suc n) l well in
      let front : List ℕ = take (length (links_in F l) - 1) (links_in F l) in
      record {
        kind = own l (node (inner (suc n)) (links_in F l)) well.kind refl ∙ ap (λ ks. Some (node (inner (suc n)) ks)) (sym links);
        some = omega (arith, well.some, same-length (suc n) l well);
        most = omega (arith, well.most, same-length (suc n) l well);
        children = subst (All (IsWell G n)) (sym links) (all-image (IsWell F n) (IsWell G n) f (links_in F l) (λ k some is. well-stands n k is) well.children);
        thick =
            subst (λ (ks : List ℕ). All (IsThick G n) (take (length ks - 1) ks)) (sym links)
            (subst (All (IsThick G n)) (sym (front-map f (links_in F l)))
            (all-image (IsThick F n) (IsThick G n) f front
            (λ k some is. thick-stands n k (all-at (IsWell F n) front (All-take (IsWell F n) (length (links_in F l) - 1) (links_in F l) well.children) k some) is) well.thick));
        not_empty =
            subst (All (λ k. 1 ≤ length (links_in G k))) (sym links)
            (all-image (λ k. 1 ≤ length (links_in F k)) (λ k. 1 ≤ length (links_in G k)) f (links_in F l)
            (λ k some is. omega (arith, is, same-length n k (all-at (IsWell F n) (links_in F l) well.children k some))) well.not_empty);
      }

  -- the elements of a vector
  pub elements-stand : (l : ℕ) → IsWellShaped F l → seq G (f l) ≡ map f (seq F l)
  elements-stand l vector = ap (λ n. seq_at G n (f l)) (height-stands (height_in F l) l vector.well) ∙ seq-stands (height_in F l) l vector.well

  -- the image of a vector's root is the root of a vector
  pub shaped-stands : (l : ℕ) → IsWellShaped F l → IsWellShaped G (f l)
  shaped-stands l vector =
      let height : height_in G (f l) ≡ height_in F l = height-stands (height_in F l) l vector.well in
      record {
        well = subst (λ n. IsWell G n (f l)) (sym height) (well-stands (height_in F l) l vector.well);
        two = λ high. let old : 2 ≤ length (links_in F l) = vector.two (omega (arith, high, height)) in omega (arith, old, same-length (height_in F l) l vector.well);
        short = omega (arith, vector.short, ap length (elements-stand l vector), length-map (seq F l) f);
        low = omega (arith, vector.low, height);
      }
