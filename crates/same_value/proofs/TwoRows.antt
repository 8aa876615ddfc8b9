-- Two trie rows as a comparison has them: opened, with their links read, and at a place of the loop over both.
use Rattle.std.proofs.Common.{◌≡◌, ◌≢◌, ℕ, ◌+◌, ◌*◌, ◌<◌, ◌≤◌, List, [], ◌∷◌, ◌++◌, length, take, get_or, ap, sym, subst, ◌∙◌, arith, Some, IsSome, below_more}
use Rattle.std.specs.List.{All, AllZip}
use Rattle.std.specs.declared.cmp.Ordering.{Ordering}
use Rattle.std.proofs.lemmas.List.{length-take}
use Rattle.node_heap.specs.Forms.{Forms, Kind, node}
use Rattle.champ_chain.specs.Entry.{key_at}
use Rattle.champ_trie.specs.Bits.{rank}
use Rattle.champ_trie.specs.Trie.{IsRow}
use Rattle.same_value.specs.Congruent.{Congruent, IsFrom}
use Rattle.same_value.specs.Apart.{Spends}
use Rattle.same_value.proofs.ReadRows.{read-at}
use Rattle.same_value.proofs.TriePairs.{Apart, Opened, apart-none, unreached, as-many, own-good, child-from, apart-more, congruent-positions, congruent-entries, congruent-child, row-short, rows-congruent-by}

-- two rows of a depth, opened, and what is known of the way in which their entries are compared
pub record TwoRows {K : Type 0} (cmp : K → K → Ordering) (code : K → ℕ) (F : Forms K) (IsGood : ℕ → Type 0) (IsSame : ℕ → ℕ → Type 0) (left depth l m : ℕ) : Type 0 where
  pub first : Opened cmp code F IsGood left depth l
  pub second : Opened cmp code F IsGood left depth m
  pub itself : (k : ℕ) → IsGood k → IsSame k k
  pub keyed : (j k : ℕ) → IsSame j k → IsSome (key_at F j)
  pub outermost : (i j k : ℕ) (kind : Kind) (ks : List ℕ) → IsGood i → F i ≡ Some (node kind (j ∷ ks)) → ¬ IsSame j k

-- the rows have entries and nodes at the same positions, so many entries each, and their links were read
pub record TwoRead {K : Type 0} (cmp : K → K → Ordering) (code : K → ℕ) (F : Forms K) (IsGood : ℕ → Type 0) (IsSame : ℕ → ℕ → Type 0) (left depth l m count : ℕ) (links others : List ℕ) : Type 0 where
  pub rows : TwoRows cmp code F IsGood IsSame left depth l m
  pub entries : rows.first.row.entries ≡ rows.second.row.entries
  pub nodes : rows.first.row.nodes ≡ rows.second.row.nodes
  pub number : count ≡ rank rows.first.row.entries 32
  pub links_read : links ≡ rows.first.row.links
  pub others_read : others ≡ rows.second.row.links

-- a place among the nodes, with the child of each row that was read there
pub record AtPlace {K : Type 0} (cmp : K → K → Ordering) (code : K → ℕ) (F : Forms K) (IsGood : ℕ → Type 0) (IsSame : ℕ → ℕ → Type 0) (left depth l m count : ℕ) (links others : List ℕ) (place x y : ℕ) : Type 0 where
  pub read : TwoRead cmp code F IsGood IsSame left depth l m count links others
  pub from : count ≤ place
  pub inside : place < length links
  pub child : x ≡ get_or links place 0
  pub other_child : y ≡ get_or others place 0

-- an opened row is the row that stands there
pub opened-row : {K : Type 0} {cmp : K → K → Ordering} {code : K → ℕ} {F : Forms K} {IsGood : ℕ → Type 0} {left depth l : ℕ} → Opened cmp code F IsGood left depth l → (d e n : ℕ) × (ls : List ℕ) × IsRow F l d e n ls
opened-row {depth} o = (depth, o.row.entries, o.row.nodes, o.row.links, o.row.row)

module _ {K : Type 0} {cmp : K → K → Ordering} {code : K → ℕ} {F : Forms K} {IsGood : ℕ → Type 0} {IsSame : ℕ → ℕ → Type 0} {left depth l m : ℕ} (rows : TwoRows cmp code F IsGood IsSame left depth l m) where
  pub positions-same : Congruent F IsSame l m → (rows.first.row.entries ≡ rows.second.row.entries) × (rows.first.row.nodes ≡ rows.second.row.nodes)
  positions-same congruent = congruent-positions cmp code F IsGood IsSame rows.itself rows.keyed rows.outermost left depth l m rows.first rows.second congruent

  -- where the rows are different, the first is apart
  pub row-apart : l ≢ m → (from place : ℕ) (links : List ℕ) → Apart F l m from place links (l ∷ [])
  row-apart other from place links = apart-none F l m from place links (unreached cmp code F left depth l m rows.first.entries rows.second.entries rows.first.row rows.second.row other)

  -- so the steps for one row may be spent
  pub row-spends : l ≢ m → (old new spare : ℕ) → new ≤ old + (204 + spare) → Spends F l m old new spare
  row-spends other old new spare few =
      let only = row-apart other 0 0 [] in
      record { rows = l ∷ []; once = only.once; apart = only.apart; few = omega (arith, few) }

module _ {K : Type 0} {cmp : K → K → Ordering} {code : K → ℕ} {F : Forms K} {IsGood : ℕ → Type 0} {IsSame : ℕ → ℕ → Type 0} {left depth l m count : ℕ} {links others : List ℕ} (read : TwoRead cmp code F IsGood IsSame left depth l m count links others) where
  pub links-number : length links ≡ length others
  links-number =
      ap length read.links_read ∙ as-many cmp code F left depth l m read.rows.first.entries read.rows.second.entries read.rows.first.row read.rows.second.row read.entries read.nodes
      ∙ sym (ap length read.others_read)

  -- both rows have as many links to take as the count says
  pub entries-taken : count ≡ length (take count links)
  entries-taken = omega (arith, length-take count links, ap length read.links_read, read.rows.first.row.row.sets.count, read.number)

  pub others-taken : count ≡ length (take count others)
  others-taken = omega (arith, length-take count links, length-take count others, entries-taken, links-number)

  pub entries-few : count ≤ 32
  entries-few =
      omega (
        arith,
        length-take count links,
        entries-taken,
        ap length read.links_read,
        row-short cmp code F IsGood IsSame read.rows.itself read.rows.keyed read.rows.outermost left depth l m read.rows.first read.rows.second,
      )

  pub left-good : All IsGood (take count links)
  left-good = rw (read.number, read.links_read) (own-good cmp code F IsGood depth l left read.rows.first)

  pub right-good : All IsGood (take count others)
  right-good = rw (read.number, read.entries, read.others_read) (own-good cmp code F IsGood depth m left read.rows.second)

  pub entries-same : Congruent F IsSame l m → AllZip IsSame (take count links) (take count others)
  entries-same congruent =
      rw (read.number, read.links_read, read.others_read)
      (congruent-entries cmp code F IsGood IsSame read.rows.itself read.rows.keyed read.rows.outermost left depth l m read.rows.first read.rows.second congruent)

  pub links-same : Congruent F IsSame l m → (i : ℕ) → i < length links → Congruent F IsSame (get_or links i 0) (get_or others i 0)
  links-same congruent i low =
      rw (read.links_read, read.others_read)
      (congruent-child cmp code F IsGood IsSame read.rows.itself read.rows.keyed read.rows.outermost left depth l m read.rows.first read.rows.second congruent i (omega (arith, low, ap length read.links_read)))

  -- the rows are congruent where their entries are the same and their children are congruent
  pub rows-congruent : AllZip IsSame (take count links) (take count others) → ((i : ℕ) → count ≤ i → i < length links → Congruent F IsSame (get_or links i 0) (get_or others i 0)) → Congruent F IsSame l m
  rows-congruent own children =
      rows-congruent-by cmp code F IsGood IsSame read.rows.itself read.rows.keyed read.rows.outermost left depth l m read.rows.first read.rows.second read.entries read.nodes (rw (read.number, read.links_read, read.others_read) at own)
      (λ i from low. rw (read.links_read, read.others_read) at (children i (omega (arith, from, read.number)) (omega (arith, low, ap length read.links_read))))

-- the place of the loop over both rows
pub at-place : {K : Type 0} {cmp : K → K → Ordering} {code : K → ℕ} {F : Forms K} {IsGood : ℕ → Type 0} {IsSame : ℕ → ℕ → Type 0} {left depth l m count : ℕ} {links others : List ℕ} {x y : ℕ} → TwoRead cmp code F IsGood IsSame left depth l m count links others
    → (place : ℕ) → count ≤ place → place < length links → x ≡ get_or links place x → y ≡ get_or others place y → AtPlace cmp code F IsGood IsSame left depth l m count links others place x y
at-place {links} {others} {x} {y} read place from inside at at' = record {
  read = read;
  from = from;
  inside = inside;
  child = read-at links place x inside at;
  other_child = read-at others place y (omega (arith, inside, links-number read)) at';
}

module _ {K : Type 0} {cmp : K → K → Ordering} {code : K → ℕ} {F : Forms K} {IsGood : ℕ → Type 0} {IsSame : ℕ → ℕ → Type 0} {left depth l m count : ℕ} {links others : List ℕ} {place x y : ℕ} (spot : AtPlace cmp code F IsGood IsSame left depth l m count links others place x y) where
  pub child-left : IsFrom cmp F IsGood code (depth + 1) x
  child-left =
      rw (spot.child, spot.read.links_read)
      (child-from cmp code F IsGood depth l left spot.read.rows.first place (omega (arith, spot.from, spot.read.number)) (omega (arith, spot.inside, ap length spot.read.links_read)))

  pub child-right : IsFrom cmp F IsGood code (depth + 1) y
  child-right =
      rw (spot.other_child, spot.read.others_read)
      (child-from cmp code F IsGood depth m left spot.read.rows.second place (omega (arith, spot.from, spot.read.number, ap (λ e. rank e 32) spot.read.entries)) (omega (arith, spot.inside, links-number spot.read, ap length spot.read.others_read)))

  pub children-congruent : Congruent F IsSame l m → Congruent F IsSame x y
  children-congruent congruent = rw (spot.child, spot.other_child) (links-same spot.read congruent place spot.inside)

  -- the children up to this place are congruent
  pub congruent-more : ((i : ℕ) → count ≤ i → i < place → Congruent F IsSame (get_or links i 0) (get_or others i 0)) → Congruent F IsSame x y → (i : ℕ) → count ≤ i → i < place + 1 → Congruent F IsSame (get_or links i 0) (get_or others i 0)
  congruent-more before here i from low =
      below_more (λ k. count ≤ k → Congruent F IsSame (get_or links k 0) (get_or others k 0)) place (λ k less after. before k after less) (λ after. rw (spot.child, spot.other_child) at here) i low from

  -- the steps from old to new at the children of this place are those of more rows apart
  pub apart-below : (rows : List ℕ) → Apart F l m count place links rows → (old new spare : ℕ) → Spends F x y old new spare
      → (more : List ℕ) × Apart F l m count (place + 1) links (rows ++ more) × (new ≤ old + (204 * length more + spare))
  apart-below rows before old new spare spends =
      let first = spot.read.rows.first in
      let second = spot.read.rows.second in
      let was : Apart F l m (rank first.row.entries 32) place first.row.links rows = rw (spot.read.number, spot.read.links_read) at before in
      let child : Spends F (get_or first.row.links place 0) (get_or second.row.links place 0) old new spare = rw (spot.child, spot.other_child, spot.read.links_read, spot.read.others_read) at spends in
      let now = apart-more cmp code F left depth l m first.entries second.entries first.row second.row spot.read.entries spot.read.nodes place rows (omega (arith, spot.from, spot.read.number)) (omega (arith, spot.inside, ap length spot.read.links_read)) was old new spare child in (
        child.rows,
        subst (λ n. Apart F l m n (place + 1) links (rows ++ child.rows)) (sym spot.read.number) (subst (λ xs. Apart F l m (rank first.row.entries 32) (place + 1) xs (rows ++ child.rows)) (sym spot.read.links_read) now),
        child.few,
      )
