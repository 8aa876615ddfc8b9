use Rattle.std.proofs.Common.{refl}
use Rattle.set_merge.proofs.spread.Spread.empty.Goals as goal

pub returns : goal.returns
returns c = record {
  blank = record {
    sets = c.empty.ensures.sets;
    places = c.empty.ensures.places;
    links = c.empty.ensures.none;
    stood = c.new.ensures;
    made = refl;
    as_first = refl;
    as_second = refl;
  };
}
