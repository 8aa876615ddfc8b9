use Rattle.std.proofs.Common.{◌≡◌, ℕ, ap, sym, ◌∙◌, Option, Some, None, IsSome, true, cond}
use Rattle.std.proofs.lemmas.Bool.{eqb-true}
use Rattle.std.specs.Ordering.{is_eq}
use Rattle.std.specs.Cmp.{IsTotalOrder, tied_itself}
use Rattle.std.specs.declared.cmp.Ordering.{Ordering}
use Rattle.node_heap.specs.Forms.{Forms}
use Rattle.node_heap.specs.Heap.{form_at}
use Rattle.champ_chain.specs.Entry.{key_at}
use Rattle.champ_trie.specs.declared.place.Place.TheVariants.{Empty, Entry as At}
use Rattle.set_merge.specs.declared.keeps.Keeps.{Keeps}
use Rattle.set_merge.specs.Side.{same_key, settled_entries, settled}
use Rattle.set_merge.proofs.side.settled_entries.Goals as goal

-- an entry beside itself
module _ {K : Type 0} (cmp : K → K → Ordering) (o : IsTotalOrder cmp) where
  by_key : (key : Option K) → IsSome key → same_key cmp key key ≡ true
  by_key None some = absurd cc
  by_key (Some key) some = ap is_eq (tied_itself o key)

  beside-itself : (F : Forms K) (k : Keeps) (x : ℕ) → IsSome (key_at F x) → settled cmp F k (At x) (At x) ≡ Some (cond k.both (At x) Empty)
  beside-itself F k x some = ap (λ b. settled_entries cmp k b x x) (by_key (key_at F x) some)

pub returns-then-eq : goal.returns-then-eq
returns-then-eq g c =
    ap Some c.kept_if.ensures
    ∙ sym (beside-itself g.T.Ord.cmp g.met.T.Ord.total (form_at c.args.heap.now) c.args.keeps c.args.x c.requires.first)
    ∙ ap (λ y. settled g.T.Ord.cmp (form_at c.args.heap.now) c.args.keeps (At c.args.x) (At y)) (eqb-true c.args.x c.args.y (sym c.if-eq.ensures))
