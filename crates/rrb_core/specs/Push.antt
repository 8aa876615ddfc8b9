-- Where a push puts its element: into the lowest row of the right spine that has fewer than 32 links, over forms.
use Rattle.std.specs.Prelude.{◌≡◌, ℕ, zero, suc, ◌-◌, ◌<◌, [], ◌∷◌, ◌++◌, length, take, slice_index}
use Rattle.node_heap.specs.Forms.{Forms, links_in}
use Rattle.rrb_core.specs.Seq.{height_in, seq_at}

module _ {K : Type 0} where
  -- the last link of a row
  abbrev pub last_in : Forms K → ℕ → ℕ
  last_in F l = slice_index (links_in F l) (length (links_in F l) - 1)

  -- a packed row of this height: each row of its right spine has 32 links
  unfoldable pub IsPacked : Forms K → ℕ → ℕ → Type 0
  IsPacked F zero l = length (links_in F l) ≡ 32
  IsPacked F (suc n) l = (length (links_in F l) ≡ 32) × IsPacked F n (last_in F l)

  -- the row m of G has the links of the row l of F, which are fewer than 32, and after them the link k
  pub record AddsLink (F G : Forms K) (l m k : ℕ) : Type 0 where
    pub room : length (links_in F l) < 32
    pub links : links_in G m ≡ links_in F l ++ k ∷ []

  -- the row m of G is the row l of F, of a height, with the element e put into it: into a leaf, into the last child, or,
  -- where that one is packed, into a new child over e alone
  pub data IsPushed (F G : Forms K) (e : ℕ) : ℕ → ℕ → ℕ → Type 0 where
    into_leaf : (l m : ℕ) → AddsLink F G l m e → IsPushed F G e zero l m
    into_last : (n l m k : ℕ) → IsPushed F G e n (last_in F l) k → links_in G m ≡ take (length (links_in F l) - 1) (links_in F l) ++ k ∷ [] → IsPushed F G e (suc n) l m
    into_new : (n l m k : ℕ) → IsPacked F n (last_in F l) → seq_at G n k ≡ e ∷ [] → AddsLink F G l m k → IsPushed F G e (suc n) l m

  -- the root m of G is the root l of F with the element e put into it or, where l is packed, a root over l and a row over e
  -- alone
  pub data IsPushedRoot (F G : Forms K) (e l m : ℕ) : Type 0 where
    into_root : height_in G m ≡ height_in F l → IsPushed F G e (height_in F l) l m → IsPushedRoot F G e l m
    over_root : (k : ℕ) → height_in G m ≡ suc (height_in F l) → IsPacked F (height_in F l) l → seq_at G (height_in F l) k ≡ e ∷ [] → links_in G m ≡ l ∷ k ∷ [] → IsPushedRoot F G e l m
