use Rattle.std.proofs.Common.{◌≡◌, ℕ, ◌∙◌, sym, ap, subst, List}
use Rattle.node_heap.specs.Forms.{Forms}
use Rattle.node_heap.specs.Heap.{form_at}
use Rattle.champ_trie.specs.Trie.{IsRow, place_of}
use Rattle.champ_trie.specs.declared.place.Place.{Place}
use Rattle.champ_trie.specs.declared.place.Place.TheVariants.{Empty, Entry as At, Node}
use Rattle.set_merge.specs.declared.side.Side.{Side}
use Rattle.set_merge.specs.declared.side.Side.TheVariants.{Empty as Nothing, Lone, Row}
use Rattle.set_merge.specs.Side.{place_below, place_in, IsSide}
use Rattle.set_merge.proofs.side.Side.at.Goals as goal

module _ {K : Type 0} (code : K → ℕ) (F : Forms K) (depth p row entries nodes : ℕ) (side : Side) (r : Place) (is : side ≡ Row row entries nodes)
    (read : (d : ℕ) (ls : List ℕ) → IsRow F row d entries nodes ls → r ≡ place_of entries nodes ls p) where
  at-row : (place : Place) → IsSide code F depth place side → r ≡ place_below code F depth place p
  at-row Empty of = absurd (let bad : Nothing ≡ Row row entries nodes = sym of ∙ is in cc)
  at-row (At x) of = absurd (let bad : Lone x _ ≡ Row row entries nodes = sym of.2 ∙ is in cc)
  at-row (Node l) of =
      let both : Row row entries nodes ≡ Row l of.0 of.1 = sym is ∙ of.4 in
      let same : row ≡ l = cc in
      let first : entries ≡ of.0 = cc in
      let second : nodes ≡ of.1 = cc in
      let there = subst (λ k. IsRow F k depth entries nodes of.2) (sym same) (subst (λ e. IsRow F l depth e nodes of.2) (sym first) (subst (λ n. IsRow F l depth of.0 n of.2) (sym second) of.3)) in
      read depth of.2 there ∙ ap (λ e. place_of e nodes of.2 p) first ∙ ap (λ n. place_of of.0 n of.2 p) second ∙ sym (ap (λ f. place_in f p) of.3.row)

module _ {K : Type 0} (code : K → ℕ) (F : Forms K) (depth row entries nodes : ℕ) (side : Side) (is : side ≡ Row row entries nodes) where
  row-there : (place : Place) → IsSide code F depth place side → (d : ℕ) × (ls : List ℕ) × IsRow F row d entries nodes ls
  row-there Empty of = absurd (let bad : Nothing ≡ Row row entries nodes = sym of ∙ is in cc)
  row-there (At x) of = absurd (let bad : Lone x _ ≡ Row row entries nodes = sym of.2 ∙ is in cc)
  row-there (Node l) of =
      let both : Row row entries nodes ≡ Row l of.0 of.1 = sym is ∙ of.4 in
      let same : row ≡ l = cc in
      let first : entries ≡ of.0 = cc in
      let second : nodes ≡ of.1 = cc in
      (depth, of.2, subst (λ k. IsRow F k depth entries nodes of.2) (sym same) (subst (λ e. IsRow F l depth e nodes of.2) (sym first) (subst (λ n. IsRow F l depth of.0 n of.2) (sym second) of.3)))

pub place_at-requires-clause-row : goal.place_at-requires-clause-row
place_at-requires-clause-row g c =
    let r = c.requires.side in
    row-there r.0 (form_at c.args.heap.now) r.1 c.in-Row.row c.in-Row.entries c.in-Row.nodes c.args.self.now c.in-Row.is r.2 r.3

pub returns-in-Row-clause-place : goal.returns-in-Row-clause-place
returns-in-Row-clause-place g c = λ code depth place of.
    at-row code (form_at c.args.heap.now) depth c.args.position c.in-Row.row c.in-Row.entries c.in-Row.nodes c.args.self.now c.place_at.result c.in-Row.is c.place_at.ensures place of
