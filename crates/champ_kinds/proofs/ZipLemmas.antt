-- Two lists whose elements go together, place by place.
use Rattle.std.proofs.Common.{◌≡◌, List, [], ◌∷◌, length, suc, refl, ap, ◌∙◌}
use Rattle.std.specs.List.{All, AllZip}
use Rattle.std.proofs.lemmas.List.Elements.{All-cons, All-head, All-tail}
use Rattle.champ_chain.specs.Entry.{SameSet, same_none, same_first, same_turned, same_through}
use Rattle.champ_chain.proofs.SetLemmas.{same-sym}
use Rattle.std.specs.Prelude.{map}
use Rattle.champ_trie.proofs.GatherLemmas.{same-map}
use Rattle.champ_kinds.specs.Laws.{GoOneToOne}

module _ {X : Type 0} where
  -- what holds of the elements holds of them in any order
  pub all-turned : (P : X → Type 0) (xs ys : List X) → SameSet xs ys → All P xs → All P ys
  all-turned P _ _ same_none all = all
  all-turned P _ _ (same_first x xs ys s) all = All-cons P x ys (All-head P x xs all) (all-turned P xs ys s (All-tail P x xs all))
  all-turned P _ _ (same_turned x y xs) all =
      let rest = All-tail P x (y ∷ xs) all in
      All-cons P y (x ∷ xs) (All-head P y xs rest) (All-cons P x xs (All-head P x (y ∷ xs) all) (All-tail P y xs rest))
  all-turned P _ _ (same_through xs ys zs s t) all = all-turned P ys zs t (all-turned P xs ys s all)

module _ {X Y : Type 0} where
  pub zip-as : (R S : X → Y → Type 0) → ((x : X) (y : Y) → R x y → S x y) → (xs : List X) (ys : List Y) → AllZip R xs ys → AllZip S xs ys
  zip-as R S so [] [] zip = tt
  zip-as R S so [] (y ∷ ys) zip = absurd zip
  zip-as R S so (x ∷ xs) [] zip = absurd zip
  zip-as R S so (x ∷ xs) (y ∷ ys) zip = (so x y zip.0, zip-as R S so xs ys zip.1)

  -- with what holds of each of the first list
  pub zip-all : (P : X → Type 0) (R : X → Y → Type 0) (xs : List X) (ys : List Y) → All P xs → AllZip R xs ys → AllZip (λ x y. P x × R x y) xs ys
  zip-all P R [] [] all zip = tt
  zip-all P R [] (y ∷ ys) all zip = absurd zip
  zip-all P R (x ∷ xs) [] all zip = absurd zip
  zip-all P R (x ∷ xs) (y ∷ ys) all zip = ((All-head P x xs all, zip.0), zip-all P R xs ys (All-tail P x xs all) zip.1)

  pub zip-flip : (R : X → Y → Type 0) (xs : List X) (ys : List Y) → AllZip R xs ys → AllZip (λ y x. R x y) ys xs
  zip-flip R [] [] zip = tt
  zip-flip R [] (y ∷ ys) zip = absurd zip
  zip-flip R (x ∷ xs) [] zip = absurd zip
  zip-flip R (x ∷ xs) (y ∷ ys) zip = (zip.0, zip-flip R xs ys zip.1)

  pub zip-length : (R : X → Y → Type 0) (xs : List X) (ys : List Y) → AllZip R xs ys → length xs ≡ length ys
  zip-length R [] [] zip = refl
  zip-length R [] (y ∷ ys) zip = absurd zip
  zip-length R (x ∷ xs) [] zip = absurd zip
  zip-length R (x ∷ xs) (y ∷ ys) zip = ap suc (zip-length R xs ys zip.1)

  -- an element goes with one other at most
  pub zip-unique : (R : X → Y → Type 0) → ((x : X) (y z : Y) → R x y → R x z → y ≡ z) → (xs : List X) (ys zs : List Y) → AllZip R xs ys → AllZip R xs zs → ys ≡ zs
  zip-unique R one [] [] [] zip also = refl
  zip-unique R one [] [] (z ∷ zs) zip also = absurd also
  zip-unique R one [] (y ∷ ys) zs zip also = absurd zip
  zip-unique R one (x ∷ xs) [] zs zip also = absurd zip
  zip-unique R one (x ∷ xs) (y ∷ ys) [] zip also = absurd also
  zip-unique R one (x ∷ xs) (y ∷ ys) (z ∷ zs) zip also = ap (λ v. v ∷ ys) (one x y z zip.0 also.0) ∙ ap (λ vs. z ∷ vs) (zip-unique R one xs ys zs zip.1 also.1)

  -- where the first list is put in another order, so is the second
  pub zip-follows : (R : X → Y → Type 0) (xs us : List X) (ys : List Y) → SameSet xs us → AllZip R xs ys → (vs : List Y) × SameSet ys vs × AllZip R us vs
  zip-follows R _ _ [] same_none zip = ([], same_none, tt)
  zip-follows R _ _ (y ∷ ys) same_none zip = absurd zip
  zip-follows R _ _ [] (same_first x xs us s) zip = absurd zip
  zip-follows R _ _ (y ∷ ys) (same_first x xs us s) zip =
      let rest = zip-follows R xs us ys s zip.1 in
      (y ∷ rest.0, same_first y ys rest.0 rest.1, (zip.0, rest.2))
  zip-follows R _ _ [] (same_turned x z xs) zip = absurd zip
  zip-follows R _ _ (y ∷ []) (same_turned x z xs) zip = absurd zip.1
  zip-follows R _ _ (y ∷ w ∷ ys) (same_turned x z xs) zip = (w ∷ y ∷ ys, same_turned y w ys, (zip.1.0, (zip.0, zip.1.1)))
  zip-follows R _ _ ys (same_through xs ws us s t) zip =
      let one = zip-follows R xs ws ys s zip in
      let two = zip-follows R ws us one.0 t one.2 in
      (two.0, same_through _ _ _ one.1 two.1, two.2)

module _ {X : Type 0} (R : X → X → Type 0) where
  -- lists that go one to one do so in any order
  pub one-to-one-turned : (xs us ys vs : List X) → SameSet xs us → SameSet ys vs → GoOneToOne R xs ys → GoOneToOne R us vs
  one-to-one-turned xs us ys vs first second go =
      let turned = zip-follows R xs us go.0 first go.2 in
      (turned.0, same_through _ _ _ (same-sym _ _ turned.1) (same_through _ _ _ go.1 second), turned.2)

-- what goes one to one does so as something else
module _ {X Y : Type 0} (R : X → X → Type 0) (S : Y → Y → Type 0) (f : X → Y) (so : (x z : X) → R x z → S (f x) (f z)) where
  zip-map : (xs ys : List X) → AllZip R xs ys → AllZip S (map f xs) (map f ys)
  zip-map [] [] zip = tt
  zip-map [] (y ∷ ys) zip = absurd zip
  zip-map (x ∷ xs) [] zip = absurd zip
  zip-map (x ∷ xs) (y ∷ ys) zip = (so x y zip.0, zip-map xs ys zip.1)

  pub one-to-one-map : (xs ys : List X) → GoOneToOne R xs ys → GoOneToOne S (map f xs) (map f ys)
  one-to-one-map xs ys go = (map f go.0, same-map f go.0 ys go.1, zip-map xs go.0 go.2)
