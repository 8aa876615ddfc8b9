use Rattle.std.proofs.Common.{◌≡◌, refl, sym, subst}
use Rattle.std.proofs.lemmas.Bool.{eqb-true}
use Rattle.same_value.specs.CompareLaws.{state-itself}
use Rattle.same_value.specs.Contents.{IsStateLink, IsSameState}
use Rattle.same_value.proofs.StateRows.{state-map-tries, state-map-congruent, state-set-tries, state-set-congruent}
use Rattle.same_value.proofs.states.equal_state.Goals as goal

pub returns-then-eq : goal.returns-then-eq
returns-then-eq g c =
    let same : c.args.a ≡ c.args.b = eqb-true c.args.a c.args.b (sym c.if-eq.ensures) in
    record {
      equal = (
        λ yes. subst (IsSameState g.T.Ord.cmp g.T.Element.code_of c.args.heap.now c.args.bits c.args.a) same (state-itself g.T.Ord.cmp g.met.T.Ord.total g.T.Element.code_of c.args.heap.now c.args.bits c.args.a c.requires.first),
        λ states. refl,
      );
    }

pub same_roots-requires-clause-tries : goal.same_roots-requires-clause-tries
same_roots-requires-clause-tries g c =
    state-map-tries g.T.Ord.cmp g.met.T.Ord.total g.T.Element.code_of g.met.T.Element.equal_codes c.args.heap.now c.args.bits c.args.a c.args.b c.links-first.result.now c.links-second.result.now c.links-first.ensures.links c.links-second.ensures.links
    c.requires.first c.requires.second c.index-first-0.result c.index-second-0.result c.index-first-0.is c.index-second-0.is

pub same_roots-requires-then-same_roots-clause-tries :
    goal.same_roots-requires-then-same_roots-clause-tries
same_roots-requires-then-same_roots-clause-tries g c =
    state-set-tries g.T.Ord.cmp g.met.T.Ord.total g.T.Element.code_of g.met.T.Element.equal_codes c.args.heap.now c.args.bits c.args.a c.args.b c.links-first.result.now c.links-second.result.now c.links-first.ensures.links c.links-second.ensures.links
    c.requires.first c.requires.second c.index-first-1.result c.index-second-1.result c.index-first-1.is c.index-second-1.is

pub returns-then-same_roots : goal.returns-then-same_roots
returns-then-same_roots g c =
    let maps = λ (first : IsStateLink g.T.Ord.cmp g.T.Element.code_of c.args.heap.now c.args.bits c.args.a) (second : IsStateLink g.T.Ord.cmp g.T.Element.code_of c.args.heap.now c.args.bits c.args.b). state-map-congruent g.T.Ord.cmp g.met.T.Ord.total g.T.Element.code_of g.met.T.Element.equal_codes c.args.heap.now c.args.bits c.args.a c.args.b c.links-first.result.now c.links-second.result.now c.links-first.ensures.links
    c.links-second.ensures.links first second c.index-first-0.result c.index-second-0.result c.index-first-0.is c.index-second-0.is in
    let sets = λ (first : IsStateLink g.T.Ord.cmp g.T.Element.code_of c.args.heap.now c.args.bits c.args.a) (second : IsStateLink g.T.Ord.cmp g.T.Element.code_of c.args.heap.now c.args.bits c.args.b). state-set-congruent g.T.Ord.cmp g.met.T.Ord.total g.T.Element.code_of g.met.T.Element.equal_codes c.args.heap.now c.args.bits c.args.a c.args.b c.links-first.result.now c.links-second.result.now c.links-first.ensures.links
    c.links-second.ensures.links first second c.index-first-1.result c.index-second-1.result c.index-first-1.is c.index-second-1.is in
    record {
      equal = (
        λ yes. record {
          first = c.requires.first;
          second = c.requires.second;
          maps = (maps c.requires.first c.requires.second).0 (c.if-same_roots.ensures.congruent.0 refl);
          sets = (sets c.requires.first c.requires.second).0 (c.same_roots-then-same_roots.ensures.congruent.0 yes);
        },
        λ states. c.same_roots-then-same_roots.ensures.congruent.1 ((sets states.first states.second).1 states.sets),
      );
    }

pub returns-else-same_roots : goal.returns-else-same_roots
returns-else-same_roots g c =
    record {
      equal = (
        λ yes. absurd cc,
        λ states. c.same_roots.ensures.congruent.1
            ((state-map-congruent g.T.Ord.cmp g.met.T.Ord.total g.T.Element.code_of g.met.T.Element.equal_codes c.args.heap.now c.args.bits c.args.a c.args.b c.links-first.result.now c.links-second.result.now c.links-first.ensures.links
            c.links-second.ensures.links states.first states.second c.index-first-0.result c.index-second-0.result c.index-first-0.is c.index-second-0.is).1 states.maps),
      );
    }
