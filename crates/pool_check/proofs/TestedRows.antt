-- What was found of the first rows of a pool.
use Rattle.std.proofs.Common.{◌≡◌, ℕ, ◌<◌, ◌≤◌, Bool, true, false, Option, Some, None, List, [], ◌∷◌, ◌++◌, length, take, refl, ap, sym, subst, ◌∙◌, arith}
use Rattle.std.specs.List.{list_all}
use Rattle.std.proofs.lemmas.Bool.{and_from}
use Rattle.std.proofs.lemmas.List.Folds.{list_all-append}
use Rattle.node_heap.specs.Forms.{Form, Forms}
use Rattle.rrb_core.specs.Seq.{height_in}
use Rattle.champ_trie.specs.Trie.{code_by}
use Rattle.pool_text.specs.Rows.{Bytes, is_in_range}
use Rattle.pool_text.specs.Rules.{present_rules}
use Rattle.pool_text.specs.Pool.{forms_in, row_count}
use Rattle.pool_text.specs.declared.pool.Pool.{Pool}
use Rattle.pool_check.specs.Rows.{rows_lead_back, links_lead_back, is_line_or_node, texts_are_lines}
use Rattle.pool_text.specs.declared.damage.Damage.TheVariants.{Kind}
use Rattle.pool_check.specs.Vectors.{length_at, vectors_stand}
use Rattle.pool_check.specs.Tries.{tries_stand_by}
use Rattle.pool_check.specs.Kinds.{is_vector_root, roots_are_of_kind}
use Rattle.pool_check.specs.Roots.{are_of}
use Rattle.pool_check.specs.declared.root.RootKind.TheVariants.{State, Versions, History}
use Rattle.pool_check.specs.Damages.{open_damage, RowsPass}
use Rattle.pool_check.specs.Shapes.{AreShapes, AreFirstShapes}
use Rattle.pool_check.specs.Keeping.{AreKept}
use Rattle.pool_check.specs.Facts.{AreFacts, facts_at, facts_in}
use Rattle.pool_check.specs.Tested.{IsFound, IsNothing, FollowsFound, IsTested}
use Rattle.pool_check.specs.declared.tested.RowsFound.{RowsFound}
use Rattle.pool_check.specs.declared.vectors.Shape.{Shape}
use Rattle.pool_check.specs.declared.trie_row.KeptRow.{KeptRow}
use Rattle.pool_check.specs.declared.kinds.RowFacts.{RowFacts}
use Rattle.pool_check.proofs.TestLemmas.{leads-down}
use Rattle.pool_check.proofs.DamageLemmas.{open-rows-pass}
use Rattle.pool_check.proofs.Refused.{fails-kind, fails-fits, fails-none}
use Rattle.pool_check.proofs.RootLemmas.{four-kinds}
use Rattle.pool_check.proofs.UndoLength.{not-fits, fits}
use Rattle.pool_check.proofs.RowsKept.{none-kept}
use Rattle.pool_check.proofs.RowsStay.{no-shapes, no-facts, longer, first-back, first-lines, shapes-stay, all-kept-stay, facts-stay}

-- no rows at all
abbrev bare : Pool → Pool
bare P = record P { rows = []; roots = [] }

no-rows-pass : (P : Pool) → RowsPass present_rules (bare P)
unfolding links_lead_back texts_are_lines vectors_stand tries_stand_by
no-rows-pass P = record { lead_back = refl; lines = refl; vectors = refl; tries = refl }

pub nothing-follows : (P : Pool) (found : RowsFound) → IsNothing found → FollowsFound P found
nothing-follows P found none =
    let C : Pool = bare P in
    record {
      first = C;
      more = P.rows;
      rows = refl;
      bits = refl;
      pass = no-rows-pass P;
      known = record {
        shapes = (no-shapes C found.shapes.items none.shapes).are;
        shape_count = ap (λ (xs : List (Option Shape)). length xs) none.shapes;
        kept = none-kept 0 (forms_in C) (code_by present_rules.code_of C.bits) present_rules.deepest (leads-down C (no-rows-pass P).lead_back) found.kept.items none.kept;
        kept_count = ap (λ (xs : List KeptRow). length xs) none.kept;
        facts = no-facts C found.facts.items none.facts;
        fact_count = ap (λ (xs : List RowFacts). length xs) none.facts;
      };
    }

-- a pool with rows behind those of one that was tested
pub tested-follows : (C P : Pool) (found : RowsFound) (more : List (Form Bytes)) → IsTested C found → P.rows ≡ C.rows ++ more → P.bits ≡ C.bits → FollowsFound P found
tested-follows C P found more is rows bits = record { first = C; more = more; rows = rows; bits = bits; pass = open-rows-pass present_rules C is.passes; known = is.known }

pub both-in-range : (xs ys : List (Form Bytes)) → list_all is_in_range xs ≡ true → list_all is_in_range ys ≡ true → list_all is_in_range (xs ++ ys) ≡ true
both-in-range xs ys h k = list_all-append is_in_range xs ys ∙ and_from (list_all is_in_range xs) (list_all is_in_range ys) h k

module _ (P : Pool) (found : RowsFound) (is : FollowsFound P found) where
  abbrev C : Pool
  C = is.first

  pub links-before : (i : ℕ) → i ≡ length found.shapes.items → rows_lead_back 0 (take i P.rows) ≡ true
  links-before i same = first-back C P is.more is.rows is.pass.lead_back i (same ∙ is.known.shape_count)

  pub lines-before : (i : ℕ) → i ≡ length found.shapes.items → list_all is_line_or_node (take i P.rows) ≡ true
  lines-before i same = first-lines C P is.more is.rows is.pass.lead_back is.pass.lines i (same ∙ is.known.shape_count)

  pub shapes-before : AreFirstShapes P found.shapes.items
  shapes-before = shapes-stay C P is.more is.rows is.pass.lead_back found.shapes.items is.known.shapes is.known.shape_count is.pass.vectors

  pub few-before : length found.facts.items ≤ row_count P
  few-before = omega (arith, is.known.fact_count, longer C P is.more is.rows is.pass.lead_back)

  module _ (back : links_lead_back P ≡ true) where
    pub kept-before : AreKept (row_count P) (forms_in P) (code_by present_rules.code_of P.bits) present_rules.deepest found.kept.items
    kept-before =
        subst (λ bits. AreKept (row_count P) (forms_in P) (code_by present_rules.code_of bits) present_rules.deepest found.kept.items) (sym is.bits)
        (all-kept-stay C P is.more is.rows is.pass.lead_back back (code_by present_rules.code_of C.bits) present_rules.deepest found.kept.items is.known.kept)

    pub facts-before : AreFacts (facts_in P) found.facts.items
    facts-before = facts-stay C P is.more is.rows is.pass.lead_back back found.facts.items is.known.facts is.known.fact_count

-- the test `Kind` by what was found
module _ (P : Pool) (found : RowsFound) (pass : RowsPass present_rules P) (known : IsFound P found) (many : length P.roots ≡ 4) (roots : List ℕ) (same : roots ≡ P.roots)
    (facts : List RowFacts) (facts_same : facts ≡ found.facts.items) (kinds : Bool) (kinds_is : (n : ℕ) (F : Forms Bytes) → AreFacts (facts_at n F) facts → kinds ≡ are_of n F (State ∷ Versions ∷ History ∷ History ∷ []) roots) where
  kinds-are : kinds ≡ roots_are_of_kind P
  kinds-are = four-kinds P roots kinds same many (kinds_is (row_count P) (forms_in P) (subst (λ xs. AreFacts (facts_in P) xs) (sym facts_same) known.facts))

  pub kinds-fail : false ≡ kinds → open_damage present_rules P ≡ Some Kind
  kinds-fail other = fails-kind present_rules P pass (sym (other ∙ kinds-are))

  module _ (yes : true ≡ kinds) (shapes : List (Option Shape)) (shapes_same : shapes ≡ found.shapes.items) (undo : ℕ)
      (undo_is : (F : Forms Bytes) (c v u : ℕ) (rest : List ℕ) → AreShapes F shapes → roots ≡ c ∷ v ∷ u ∷ rest → is_vector_root (F u) ≡ true → undo ≡ length_at F (height_in F u) u) where
    are : AreShapes (forms_in P) shapes
    are = subst (λ xs. AreShapes (forms_in P) xs) (sym shapes_same) known.shapes

    right : roots_are_of_kind P ≡ true
    right = sym (yes ∙ kinds-are)

    pub undo-fails : P.history < undo → open_damage present_rules P ≡ Some Kind
    undo-fails more = fails-fits present_rules P pass right (not-fits P shapes are roots same undo undo_is right more)

    pub kinds-pass : undo ≤ P.history → open_damage present_rules P ≡ None
    kinds-pass within = fails-none present_rules P pass right (fits P shapes are roots same undo undo_is right within)
