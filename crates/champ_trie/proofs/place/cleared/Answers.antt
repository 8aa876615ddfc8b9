use Rattle.std.proofs.Common.{sym}
use Rattle.std.specs.Int.{w32}
use Rattle.std.proofs.lemmas.Nat.Bits.{bit_at_clear_same, bit_at_clear_other}
use Rattle.champ_trie.proofs.BitLemmas.{bit-has}
use Rattle.champ_trie.proofs.place.cleared.Goals as goal

pub returns : goal.returns
returns c = record {
  was = bit_at_clear_same w32 c.args.set c.args.position c.requires.position;
  is = bit-has c.args.set c.args.position c.requires.there;
  others = λ q lt other. sym (bit_at_clear_other w32 c.args.set c.args.position c.requires.position q lt other);
}
