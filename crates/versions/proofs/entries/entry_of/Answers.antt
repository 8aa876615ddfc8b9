use Rattle.versions.proofs.EntryLemmas.{pair-live}
use Rattle.versions.proofs.entries.entry_of.Goals as goal

pub links-links-requires : goal.links-links-requires
links-links-requires g c = pair-live c.args.heap.now c.args.pair c.requires
