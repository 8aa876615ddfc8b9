-- Known rows fit a pool, with values or with their texts.
use Rattle.std.proofs.Common.{◌≡◌, ℕ, zero, suc, true, List, [], ◌∷◌, Option, Some, None, option_map, refl, ap, sym, ◌∙◌}
use Rattle.node_heap.specs.Forms.{Row, Forms, Kind, cell, node, leaf, inner, trie, chain, pair, state, kind_of, form_of}
use Rattle.rrb_core.specs.Seq.{IsWell}
use Rattle.champ_chain.specs.Entry.{Entry}
use Rattle.champ_chain.specs.Chain.{AreChainRows}
use Rattle.pool_text.specs.Rows.{Bytes}
use Rattle.pool_text.specs.Pool.{text_form, fits_pool}
use Rattle.state_rows.proofs.CoverRows.{IsKnown, known_cell, known_vector, known_trie, known_chain, known_pair, known_state}
use Rattle.state_rows.proofs.PassesKinds.{trie-form}

module _ (F : Forms Bytes) where
  well-fits : (n l : ℕ) → IsWell F n l → fits_pool (F l) ≡ true
  unfolding IsWell
  well-fits zero l well = ap fits_pool well.kind
  well-fits (suc n) l well = ap fits_pool well.kind

  chain-fits : (l : ℕ) (es : List (Entry Bytes)) → AreChainRows F (Some l) es → fits_pool (F l) ≡ true
  unfolding AreChainRows
  chain-fits l [] rows = absurd (let none : Some l ≡ None = rows in cc)
  chain-fits l (e ∷ es) rows =
      let same : rows.link ≡ l = (let both : Some rows.link ≡ Some l = sym rows.here in cc) in
      ap (λ k. fits_pool (F k)) (sym same) ∙ ap fits_pool rows.row

  pub known-fits : (code : Bytes → ℕ) (deepest l : ℕ) → IsKnown F code deepest l → fits_pool (F l) ≡ true
  known-fits code deepest l (known_cell text is line) = ap fits_pool is
  known-fits code deepest l (known_vector n low well short each) = well-fits n l well
  known-fits code deepest l (known_trie left depth c E levels is agree many) = ap fits_pool (trie-form F code left depth l E is).3
  known-fits code deepest l (known_chain c es rows rising agree) = chain-fits l es rows
  known-fits code deepest l (known_pair k m is first second) = ap fits_pool is
  known-fits code deepest l (known_state k m is first second) = ap fits_pool is

-- a row fits where it does with the text of its value
pub fits-text : {T : Type 0} (text : T → Bytes) (r : Option (Row T)) → fits_pool (option_map form_of r) ≡ fits_pool (option_map (text_form text) r)
fits-text text None = refl
fits-text text (Some (cell x)) = refl
fits-text {T} text (Some (node head links)) = by_kind (kind_of head)
  where
    by_kind : (kind : Kind) → fits_pool {K = T} (Some (node kind links)) ≡ fits_pool {K = Bytes} (Some (node kind links))
    by_kind leaf = refl
    by_kind (inner n) = refl
    by_kind (trie d e n) = refl
    by_kind chain = refl
    by_kind pair = refl
    by_kind state = refl
