use Rattle.std.specs.Int.{w32}
use Rattle.std.proofs.lemmas.Nat.Bits.{bit_at_set_same, bit_at_set_other}
use Rattle.champ_trie.proofs.BitLemmas.{bit-no}
use Rattle.champ_trie.proofs.place.with_position.Goals as goal

pub returns : goal.returns
returns c = record {
  was = bit-no c.args.set c.args.position c.requires.free;
  is = bit_at_set_same w32 c.args.set c.args.position c.requires.position;
  others = λ q lt other. bit_at_set_other w32 c.args.set c.args.position c.requires.position q other;
}
