-- A vector that a call gave beside others, and that is given up again.
use Rattle.std.proofs.Common.{◌≡◌, ℕ, ◌+◌, ◌<◌, [], ◌∷◌, refl, arith}
use Rattle.node_heap.specs.Forms.{cell}
use Rattle.node_heap.specs.Heap.{Heap, holds_at, hold_count, one_at}
use Rattle.node_heap.specs.Calls.{Adds, Extends, Unchanged, Answered, Releases}
use Rattle.rrb_core.specs.Vector.{IsGoodVector, IsSameVector}
use Rattle.vector_tests.specs.Stands.{GivesBack}
use Rattle.node_heap.proofs.BuildLemmas.{count-one}
use Rattle.rrb_core.proofs.LinkCounts.{one-same}
use Rattle.rrb_core.proofs.Stays.{extended-good}
use Rattle.rrb_core.proofs.BuildLemmas.{unchanged-good}

module _ {T : Type 0} where
  -- the vector is held once more, and every other link as often as before
  pub record IsBeside (old new : Heap T) (vector : ℕ) : Type 0 where
    pub more : (k : ℕ) → holds_at new k ≡ holds_at old k + one_at vector k
    pub count : hold_count new ≡ hold_count old + 1
    pub stay : (l : ℕ) → 0 < holds_at old l → IsGoodVector old l → IsGoodVector new l

  -- the answer of a call that spent nothing
  pub answered-beside : {a b : Heap T} {vector n m : ℕ} → Answered a b [] vector n m → IsBeside a b vector
  answered-beside {a} {b} {vector} answered =
      record {
        more = λ k.
            let more : holds_at b k + 0 ≡ holds_at a k + one_at vector k = answered.holds k in
            omega (arith, more);
        count =
            let total : hold_count b + 0 ≡ hold_count a + 1 = answered.count in
            omega (arith, total);
        stay = λ l held good. extended-good l answered.extends good;
      }

  -- the answer of a call that spent a new cell
  pub spent-beside : {a b c d : Heap T} {link vector n m : ℕ} {value : T} → Unchanged a b → Adds b c link (cell value) → hold_count c ≡ hold_count b + 1 → Extends b c → Answered c d (link ∷ []) vector n m → IsBeside a d vector
  spent-beside {a} {b} {c} {d} {link} {vector} same adds added extends answered =
      record {
        more = λ k.
            let here : holds_at c k + 0 ≡ holds_at b k + one_at link k = adds.holds k in
            omega (arith, same.holds k, here, answered.holds k, count-one k link);
        count = omega (arith, same.count, added, answered.count);
        stay = λ l held good. extended-good l answered.extends (extended-good l extends (unchanged-good l same good).0);
      }

  -- the vector is used, which leaves all holds as they are
  pub used-beside : {a b c : Heap T} {vector : ℕ} → IsBeside a b vector → GivesBack b c → IsBeside a c vector
  used-beside beside same =
      record {
        more = λ k. omega (arith, beside.more k, same.holds k);
        count = omega (arith, beside.count, same.count);
        stay = λ l held good. same.vectors l (omega (arith, held, beside.more l)) (beside.stay l held good);
      }

  pub beside-held : {a b : Heap T} {vector : ℕ} → IsBeside a b vector → 0 < holds_at b vector
  beside-held {a} {b} {vector} beside = omega (arith, beside.more vector, one-same vector vector refl)

  -- the vector is given up, and all is as it was
  pub given-back : {a b c : Heap T} {vector : ℕ} → IsBeside a b vector → Releases b c vector → ((l : ℕ) → one_at vector l < holds_at b l → IsSameVector b c l) → GivesBack a c
  given-back beside released vectors =
      record {
        holds = λ k. omega (arith, beside.more k, released.holds k);
        count = omega (arith, beside.count, released.count);
        vectors = λ l held good. (vectors l (omega (arith, held, beside.more l)) (beside.stay l held good)).0;
      }
