use Rattle.std.proofs.Common.{◌≡◌, ℕ, ◌-◌, Bool, true, false, cond, Option, Some, None, List, ◌++◌, length, length-drop, take, drop, refl, ap, sym, ◌∙◌, arith}
use Rattle.std.specs.Prelude.{option_map, nat_lt}
use Rattle.std.specs.List.{list_all}
use Rattle.std.proofs.lemmas.List.{take_all, length-take-le}
use Rattle.pool_check.specs.Keeping.{code_at, codes_by}
use Rattle.pool_check.specs.declared.trie_row.Part.TheVariants.{Entries, Nodes}
use Rattle.pool_check.proofs.TrieRowLemmas.{low-parts}
use Rattle.pool_check.proofs.DigitSteps.{both-some, both-first, both-second}
use Rattle.pool_check.proofs.trie_row.codes_of.Goals as goal

-- what stands after the first so many
rest-is : (own : ℕ) (ks : List ℕ) → take (length ks - own) (drop own ks) ≡ drop own ks
rest-is own ks = take_all (length ks - own) (drop own ks) (omega (arith, length-drop own ks))

-- the codes after these, where it is known how the call ended
added : (f : ℕ → Option ℕ) (old ks js cs : List ℕ) (result known : Bool) → js ≡ ks → option_map (λ es. old ++ es) (codes_by f js) ≡ cond result (Some cs) None → result ≡ known → option_map (λ es. old ++ es) (codes_by f ks) ≡ cond known (Some cs) None
added f old ks js cs result known same is ended = ap (λ xs. option_map (λ es. old ++ es) (codes_by f xs)) (sym same) ∙ is ∙ ap (λ b. cond b (Some cs) None) ended

pub add_codes-requires-clause-below : goal.add_codes-requires-clause-below
add_codes-requires-clause-below c = (low-parts (λ k. nat_lt k (length c.args.kept.now)) c.args.own c.args.links.now c.requires.below).0

pub add_codes-requires-2-clause-room : goal.add_codes-requires-2-clause-room
add_codes-requires-2-clause-room c =
    let links = c.args.links.now in
    omega (arith, c.add_codes.ensures.long c.if-not-add_codes.false, ap length c.new-codes.ensures, length-take-le c.args.own links c.requires.own, ap length (rest-is c.args.own links), length-drop c.args.own links, c.requires.few, c.requires.own)

pub add_codes-requires-2-clause-below : goal.add_codes-requires-2-clause-below
add_codes-requires-2-clause-below c =
    let links = c.args.links.now in
    ap (list_all (λ k. nat_lt k (length c.args.kept.now))) (rest-is c.args.own links) ∙ (low-parts (λ k. nat_lt k (length c.args.kept.now)) c.args.own links c.requires.below).1

pub returns-then-not-add_codes : goal.returns-then-not-add_codes
returns-then-not-add_codes c = record {
  long = tt;
  codes = λ n F code are.
      let entries = code_at n F code c.args.deepest Entries c.args.depth in
      let nodes = code_at n F code c.args.deepest Nodes c.args.depth in
      let own = take c.args.own c.args.links.now in
      both-first (codes_by entries own) (codes_by nodes (drop c.args.own c.args.links.now))
      (ap (λ xs. option_map (λ es. xs ++ es) (codes_by entries own)) (sym c.new-codes.ensures) ∙ added entries c.new-codes.result.items own own c.add_codes.new.codes.items c.add_codes.result false refl (c.add_codes.ensures.codes n F code are) c.if-not-add_codes.true);
}

pub returns-then-not-add_codes-2 : goal.returns-then-not-add_codes-2
returns-then-not-add_codes-2 c = record {
  long = tt;
  codes = λ n F code are.
      let entries = code_at n F code c.args.deepest Entries c.args.depth in
      let nodes = code_at n F code c.args.deepest Nodes c.args.depth in
      let links = c.args.links.now in
      both-second (codes_by entries (take c.args.own links)) (codes_by nodes (drop c.args.own links)) c.add_codes.new.codes.items
      (added nodes c.add_codes.new.codes.items (drop c.args.own links) (take (length links - c.args.own) (drop c.args.own links)) c.add_codes-2.new.codes.items c.add_codes-2.result false (rest-is c.args.own links) (c.add_codes-2.ensures.codes n F code are) c.if-not-add_codes-2.true);
}

pub returns : goal.returns
returns c = record {
  long =
      let links = c.args.links.now in
      omega (arith, c.add_codes.ensures.long c.if-not-add_codes.false, c.add_codes-2.ensures.long c.if-not-add_codes-2.false, ap length c.new-codes.ensures, length-take-le c.args.own links c.requires.own, ap length (rest-is c.args.own links), length-drop c.args.own links, c.requires.own);
  codes = λ n F code are.
      let entries = code_at n F code c.args.deepest Entries c.args.depth in
      let nodes = code_at n F code c.args.deepest Nodes c.args.depth in
      let links = c.args.links.now in
      let own = take c.args.own links in
      both-some (codes_by entries own) (codes_by nodes (drop c.args.own links)) c.add_codes.new.codes.items c.add_codes-2.new.codes.items
      (ap (λ xs. option_map (λ es. xs ++ es) (codes_by entries own)) (sym c.new-codes.ensures) ∙ added entries c.new-codes.result.items own own c.add_codes.new.codes.items c.add_codes.result true refl (c.add_codes.ensures.codes n F code are) c.if-not-add_codes.false)
      (added nodes c.add_codes.new.codes.items (drop c.args.own links) (take (length links - c.args.own) (drop c.args.own links)) c.add_codes-2.new.codes.items c.add_codes-2.result true (rest-is c.args.own links) (c.add_codes-2.ensures.codes n F code are) c.if-not-add_codes-2.false);
}
