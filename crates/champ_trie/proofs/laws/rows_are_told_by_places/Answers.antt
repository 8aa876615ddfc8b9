use Rattle.std.proofs.Common.{◌+◌, refl, ap, sym, subst}
use Rattle.elem_core.specs.Codes.{digit_at, masked_code}
use Rattle.champ_trie.specs.Trie.{IsTrie, IsPlace, part, code_by}
use Rattle.champ_trie.proofs.PartLemmas.{row-trie}
use Rattle.champ_trie.proofs.RowLemmas.{row-with, row-less}
use Rattle.champ_trie.proofs.laws.rows_are_told_by_places.Goals as goal

pub returns-clause-places : goal.returns-clause-places
returns-clause-places g c = λ bits F left depth l places E row stand.
    let code = code_by g.T.Element.code_of bits in
    row-trie g.T.Ord.cmp code F left depth l row.entries row.nodes row.links E row.row
    (λ p small. subst (λ place. IsPlace F (λ k P. IsTrie g.T.Ord.cmp code F left (depth + 1) k P) place (part g.T.Ord.cmp code depth p E)) (sym (row.at p small)) (stand p small))

pub returns-clause-takes : goal.returns-clause-takes
returns-clause-takes g c = λ bits F G left depth l m E e is d stands.
    row-with g.T.Ord.cmp (code_by g.T.Element.code_of bits) F G left depth (digit_at (code_by g.T.Element.code_of bits e.key) depth) l m d.rows.entries d.rows.nodes d.rows.links d.rows.new_entries d.rows.new_nodes d.rows.new_links E e
    (λ j k same. ap (λ n. masked_code n bits) (g.met.T.Element.equal_codes j k same)) refl is d.rows.row d.rows.new_row d.rows.others d.below stands

pub returns-clause-loses : goal.returns-clause-loses
returns-clause-loses g c = λ bits F G left depth l m E key is d stands.
    row-less g.T.Ord.cmp (code_by g.T.Element.code_of bits) F G left depth (code_by g.T.Element.code_of bits key) l m d.rows.entries d.rows.nodes d.rows.links d.rows.new_entries d.rows.new_nodes d.rows.new_links E key
    (λ j k same. ap (λ n. masked_code n bits) (g.met.T.Element.equal_codes j k same)) refl is d.rows.row d.rows.new_row d.rows.others d.below stands
