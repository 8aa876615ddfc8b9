-- Tries that differ on the way of a code alone.
use Rattle.std.proofs.Common.{◌≡◌, ◌≢◌, ℕ, zero, suc, ◌+◌, ◌<◌, List, sym, subst, ◌∙◌, arith, inl, inr}
use Rattle.elem_core.specs.Codes.{digit_at}
use Rattle.std.specs.declared.cmp.Ordering.{Ordering}
use Rattle.node_heap.specs.Forms.{Forms}
use Rattle.node_heap.specs.Heap.{Heap, form_at}
use Rattle.champ_chain.specs.Entry.{Entry}
use Rattle.champ_chain.proofs.FrameLemmas.{KeepsForms}
use Rattle.champ_trie.specs.Trie.{IsRow, IsTrie, place_of}
use Rattle.champ_trie.specs.Edit.{SharesBeside, Closes}
use Rattle.champ_trie.specs.declared.place.Place.{Place}
use Rattle.champ_trie.specs.declared.place.Place.TheVariants.{Entry as At, Node}

-- two nodes that stand at one place are one
pub same-node : (j k : ℕ) → Node j ≡ Node k → j ≡ k
same-node j k same = cc

module _ {K : Type 0} where
  pub shares-kept : (F F' G G' : Forms K) → KeepsForms F F' → KeepsForms G G' → (c left d l m : ℕ) → SharesBeside F G c left d l m → SharesBeside F' G' c left d l m
  unfolding SharesBeside
  shares-kept F F' G G' old new c zero d l m shares = shares
  shares-kept F F' G G' old new c (suc left) d l m shares = record {
    entries = shares.entries;
    nodes = shares.nodes;
    links = shares.links;
    row = record { row = old.kept l _ shares.row.row; sets = shares.row.sets };
    new_entries = shares.new_entries;
    new_nodes = shares.new_nodes;
    new_links = shares.new_links;
    new_row = record { row = new.kept m _ shares.new_row.row; sets = shares.new_row.sets };
    others = shares.others;
    next = λ j k at there. shares-kept F F' G G' old new c left (suc d) j k (shares.next j k at there);
  }

  -- no levels are left
  pub shares-none : (F G : Forms K) (c left d l m : ℕ) → left ≡ 0 → SharesBeside F G c left d l m
  unfolding SharesBeside
  shares-none F G c left d l m none = subst (λ n. SharesBeside F G c n d l m) (sym none) tt

  pub shares-row : (F G : Forms K) (c left d l m e n : ℕ) (ls : List ℕ) (e' n' : ℕ) (ls' : List ℕ) → IsRow F l d e n ls → IsRow G m d e' n' ls'
      → ((q : ℕ) → q < 32 → q ≢ digit_at c d → place_of e' n' ls' q ≡ place_of e n ls q)
      → ((j k : ℕ) → place_of e n ls (digit_at c d) ≡ Node j → place_of e' n' ls' (digit_at c d) ≡ Node k → SharesBeside F G c left (d + 1) j k) → SharesBeside F G c (suc left) d l m
  unfolding SharesBeside
  shares-row F G c left d l m e n ls e' n' ls' row new others next =
      let deeper : d + 1 ≡ suc d = omega arith in
      record {
        entries = e;
        nodes = n;
        links = ls;
        row = row;
        new_entries = e';
        new_nodes = n';
        new_links = ls';
        new_row = new;
        others = others;
        next = λ j k at there. subst (λ i. SharesBeside F G c left i j k) deeper (next j k at there);
      }

  -- the row of a trie at a depth
  pub row-at : (cmp : K → K → Ordering) (code : K → ℕ) (F : Forms K) (left d l : ℕ) (E : List (Entry K)) → IsTrie cmp code F (suc left) d l E → (e n : ℕ) × (ls : List ℕ) × IsRow F l d e n ls
  unfolding IsTrie
  row-at cmp code F left d l E trie = (trie.entries, trie.nodes, trie.links, trie.row)

-- a node that closes a row is a row like it
pub closes-row : {T : Type 0} (h : Heap T) (e n : ℕ) (ls : List ℕ) (d : ℕ) (place : Place) (m : ℕ) → Closes h e n ls d place → place ≡ Node m → IsRow (form_at h) m d e n ls
closes-row h e n ls d place m (inl (none, one, is)) there = absurd (let bad : At _ ≡ Node m = sym is ∙ there in cc)
closes-row h e n ls d place m (inr (other, (l, is, row))) there = subst (λ k. IsRow (form_at h) k d e n ls) (same-node l m (sym is ∙ there)) row
