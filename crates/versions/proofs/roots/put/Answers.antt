use Rattle.std.proofs.Common.{ap, sym, subst, ◌∙◌, arith}
use Rattle.std.specs.Prelude.{IsSome}
use Rattle.versions.specs.Roots.{root_of, PutsRoot}
use Rattle.versions.proofs.roots.put.Goals as goal

pub remove-requires : goal.remove-requires
remove-requires c = subst (λ v. IsSome (root_of c.args.roots.now.slots v)) (sym c.version.view_is) c.requires.held

pub returns : goal.returns
returns c =
    let took = c.remove.ensures in
    let put = c.insert_reserved.ensures in
    let at = put.key ∙ took.key_is_next in
    subst (λ v. PutsRoot c.args.roots.now.slots c.insert_reserved.new.self.slots v c.args.root) c.version.view_is (record {
      between = c.remove.new.self.slots;
      drops = record { free = took.updates.changed; others = took.updates.others; count = took.len };
      adds = record {
        free = took.updates.changed;
        here = ap (root_of c.insert_reserved.new.self.slots) (sym at) ∙ put.updates.changed;
        others = λ q off. put.updates.others q (λ e. off (e ∙ at));
        count = put.len;
        few = omega (arith, took.len, c.requires.few);
      };
    })
