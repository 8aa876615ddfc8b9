-- Rows that are told to be one are one, and the other way round.
use Rattle.std.proofs.Common.{◌≡◌, Bool, true, ◌&&◌, refl, ap, ◌∙◌, eqb}
use Rattle.std.specs.Str.{bytes_eq}
use Rattle.std.proofs.lemmas.Bool.{eqb-true, eq-eqb}
use Rattle.std.proofs.lemmas.Slice.Eq.{bytes_eq-Decides}
use Rattle.node_heap.specs.Forms.{Form, Kind, cell, node, leaf, inner, trie, chain, pair, state}
use Rattle.pool_text.specs.Rows.{Bytes}
use Rattle.pool_check.proofs.TestLemmas.{and-first, and-second, not-both}
use Rattle.pool_delta.specs.Forms.{same_kind, same_form}

bytes-are : (xs ys : Bytes) → bytes_eq xs ys ≡ true → xs ≡ ys
bytes-are xs ys h = (bytes_eq-Decides xs ys).0 h

bytes-same : (xs : Bytes) → bytes_eq xs xs ≡ true
bytes-same xs = (bytes_eq-Decides xs xs).1 refl

both-true : (a b : Bool) → a ≡ true → b ≡ true → (a && b) ≡ true
both-true a b h k = ap (λ x. x && b) h ∙ k

kinds-are : (k k' : Kind) → same_kind k k' ≡ true → k ≡ k'
kinds-are leaf leaf h = refl
kinds-are (inner i) (inner j) h = ap inner (eqb-true i j h)
kinds-are (trie d e n) (trie d' e' n') h =
    let two = and-first (eqb d d' && eqb e e') (eqb n n') h in
    ap (λ x. trie x e n) (eqb-true d d' (and-first (eqb d d') (eqb e e') two))
    ∙ ap (λ x. trie d' x n) (eqb-true e e' (and-second (eqb d d') (eqb e e') two)) ∙ ap (trie d' e') (eqb-true n n' (and-second (eqb d d' && eqb e e') (eqb n n') h))
kinds-are chain chain h = refl
kinds-are pair pair h = refl
kinds-are state state h = refl
kinds-are _ _ h = absurd (not-both h)

kind-same : (k : Kind) → same_kind k k ≡ true
kind-same leaf = refl
kind-same (inner i) = eq-eqb i i refl
kind-same (trie d e n) = both-true (eqb d d && eqb e e) (eqb n n) (both-true (eqb d d) (eqb e e) (eq-eqb d d refl) (eq-eqb e e refl)) (eq-eqb n n refl)
kind-same chain = refl
kind-same pair = refl
kind-same state = refl

pub forms-are : (r s : Form Bytes) → same_form r s ≡ true → r ≡ s
forms-are (cell x) (cell y) h = ap cell (bytes-are x y h)
forms-are (cell x) (node k ks) h = absurd (not-both h)
forms-are (node k ks) (cell y) h = absurd (not-both h)
forms-are (node k ks) (node k' ks') h =
    ap (λ x. node x ks) (kinds-are k k' (and-first (same_kind k k') (bytes_eq ks ks') h)) ∙ ap (node k') (bytes-are ks ks' (and-second (same_kind k k') (bytes_eq ks ks') h))

pub form-same : (r : Form Bytes) → same_form r r ≡ true
form-same (cell x) = bytes-same x
form-same (node k ks) = both-true (same_kind k k) (bytes_eq ks ks) (kind-same k) (bytes-same ks)
