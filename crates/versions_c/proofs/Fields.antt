-- The machine values of a `Loose` and of a `Handle`. Assumes `Logic`.
use Rattle.std.proofs.Common.{◌≡◌, ℕ, Bool, true, false, List, [], ◌∷◌, ◌++◌, Option, None, Some, refl, subst}
use mathlib.Core.Bool.{◌&&◌}
use lib.Dec.{T}
use seplogic.Ra.Ura.{Ura}
use mir.Syntax.{impl, tnil, dnil}
use mir.Raw.{raw as bare}
use mir.Val.{Val, vptr, vnull, vbool, vstruct, vcons, vnil, of_list, has_ty, WT}
use base.Logic.{never, never_e, fst∗}
use base.Fml.{ftrue}
use types.Logic.{Logic, sem}
use types.Kit.{Item, Goal, Seq, Step, step, ‵, given, ◌$◌, move, drop, use1, learn, fsplit, fjoin, fpick, fpack, feq_i, feq_l}
use denote.RattleType.{RattleType, Valss}
use denote.Builtin.{RawPtr, bool}
use denote.Memory.{lone}
use denote.RawPtr.{Ptr, block_ptr, null_ptr, ptr_val, in_a_block}
use denote.Steps.{nothing}
use denote.Param.{layout}
use denote.Param.Laws.{Laws}
use denote.Struct.Struct.{within}
use denote.Struct.Owning.{shape}
use Rattle.core.specs.declared.alloc.Allocator.{Ghosts}
use Rattle.core.proofs.alloc.Calls.{Al, handle_tells}
use Rattle.core.proofs.cell.Inside.{Good}
use Rattle.std.specs.declared.alloc.Global.{Global}
use Rattle.std.specs.contracts.impls.GlobalAllocator.TheImpl.{ghosts}
use Rattle.std_alloc.specs.Box.Ownership.{box_owns}
use Rattle.std_alloc.proofs.ResultValues.{and_tt}
use Rattle.versions_c.specs.contracts.loose.Loose as loose
use Rattle.versions_c.specs.contracts.handle.Handle as handle
use Rattle.versions_c.specs.contracts.store.Store as store
use Rattle.versions_c.specs.declared.store.Store.{Store}
use Rattle.versions_c.specs.Owned.{owned}

abbrev pub both : Val → Val → Val
both v w = vstruct (vcons v (vcons w vnil))

module _ (R Z : RattleType) (L : Laws Z) (g : Ghosts Z.Denot) where
  abbrev pub Loose : RattleType
  Loose = loose.the_row R Z g

  abbrev al : Al
  al = record { row = Z; laws = L; g = g; d = impl [] tnil dnil; drops = impl [] tnil dnil }

  pub loose_good : (b o : ℕ) (h : Val) → Good (layout Z) h → T (has_ty (layout Z) h && true) × WT (both (vptr b o) h)
  loose_good b o h fits = (and_tt (has_ty (layout Z) h) fits.0, (tt, (fits.1, tt)))

  module _ {M : Type 1} {𝓤 : Ura M} {𝓛 : Logic 𝓤} {K : Type 0} {Γ : List (Item 𝓤)} {G : Goal 𝓤 𝓛.H} where
    pub loose_out : K → (d : Loose.Denot) (vs : List Val)
        → ((b o : ℕ) (h : Val) → d.at ≡ block_ptr b o → vs ≡ both (vptr b o) h ∷ [] → Good (layout Z) h → Seq K 𝓛 (‵ (box_owns (g.dealloc_token d.alloc) R (block_ptr b o) d.value) ∷ ‵ (Z.own_val d.alloc (h ∷ [])) ∷ Γ) G)
        → Seq K 𝓛 (‵ (Loose.own_val d vs) ∷ Γ) G
    loose_out t d vs k =
        fsplit t $ fpick t (λ vss. fsplit t $ feq_l t (λ ev. fsplit t $ feq_l t (λ ep. fsplit t $ handle_tells al t d.alloc vss.1.0 (λ h ea fits. move t (1 ∷ []) $ drop t $ move t (1 ∷ []) $
        in_a_block t d.at (λ p. box_owns (g.dealloc_token d.alloc) R p d.value) (fst∗ 𝓤 (never 𝓤) (sem 𝓛 (g.dealloc_token d.alloc (bare (lone R.mir)) null_ptr))) (λ b o e. k b o h e
        (subst (λ (p : Ptr). vs ≡ vstruct (of_list (ptr_val p ∷ h ∷ [])) ∷ []) e
        (subst (λ (ws : List Val). vs ≡ vstruct (of_list (ptr_val d.at ∷ (ws ++ []))) ∷ []) ea (subst (λ (ps : List Val). vs ≡ vstruct (of_list (ps ++ (vss.1.0 ++ []))) ∷ []) ep ev))) fits)))))

    pub loose_in : K → (b o : ℕ) (h : Val) (a : Z.Denot) (x : R.Denot)
        → Step K 𝓛 (‵ (Loose.own_val (record { at = block_ptr b o; alloc = a; value = x }) (both (vptr b o) h ∷ [])) ∷ Γ) G (‵ (box_owns (g.dealloc_token a) R (block_ptr b o) x) ∷ ‵ (Z.own_val a (h ∷ [])) ∷ Γ) G
    loose_in t b o h a x = step (λ s. let v : Val = both (vptr b o) h in
        nothing t $ move t (2 ∷ 0 ∷ []) $ fjoin t $ feq_i t (List Val) (vptr b o ∷ []) (vptr b o ∷ []) refl $ fjoin t $ feq_i t (List Val) (v ∷ []) (v ∷ []) refl $ fjoin t $
        fpack t (Valss (RawPtr ∷ Z ∷ [])) (within (shape (loose.the_type R Z g)) (block_ptr b o, (a, tt)) (v ∷ [])) (vptr b o ∷ [], (h ∷ [], tt)) $ fjoin t $ s)

abbrev pub Handle : RattleType
Handle = handle.the_row

module _ {M : Type 1} {𝓤 : Ura M} {𝓛 : Logic 𝓤} {K : Type 0} {Γ : List (Item 𝓤)} {G : Goal 𝓤 𝓛.H} where
  -- a null pointer, or the box of a store
  either_held : K → (p : Ptr) (t : Bool) (x : Option Store)
      → (p ≡ null_ptr → t ≡ false → x ≡ None → Seq K 𝓛 Γ G)
      → ((b o : ℕ) (a : Global) (s : Store) → p ≡ block_ptr b o → t ≡ true → x ≡ Some s → Seq K 𝓛 (‵ (box_owns (ghosts.dealloc_token a) store.the_row (block_ptr b o) s) ∷ Γ) G)
      → Seq K 𝓛 (‵ (owned p t x) ∷ Γ) G
  either_held k p true (Some s) none some =
      fpick k (λ a. in_a_block k p (λ q. box_owns (ghosts.dealloc_token a) store.the_row q s) (fst∗ 𝓤 (never 𝓤) (sem 𝓛 (ghosts.dealloc_token a (bare (lone (store.the_row).mir)) null_ptr))) (λ b o e. some b o a s e refl refl))
  either_held k p true None none some = use1 𝓛 (given ⊥ (‵ ftrue)) (never_e 𝓤 _) $ learn k (λ wrong. absurd wrong)
  either_held k p false (Some s) none some = use1 𝓛 (given ⊥ (‵ ftrue)) (never_e 𝓤 _) $ learn k (λ wrong. absurd wrong)
  either_held k p false None none some = feq_l k (λ e. none e refl refl)

  pub handle_out : K → (d : Handle.Denot) (vs : List Val)
      → (d.value ≡ None → vs ≡ both vnull (vbool false) ∷ [] → Seq K 𝓛 Γ G)
      → ((b o : ℕ) (a : Global) (s : Store) → d.value ≡ Some s → vs ≡ both (vptr b o) (vbool true) ∷ [] → Seq K 𝓛 (‵ (box_owns (ghosts.dealloc_token a) store.the_row (block_ptr b o) s) ∷ Γ) G)
      → Seq K 𝓛 (‵ (Handle.own_val d vs) ∷ Γ) G
  handle_out k d vs none some =
      fsplit k $ fpick k (λ vss. fsplit k $ feq_l k (λ ev. fsplit k $ feq_l k (λ ep. fsplit k $ feq_l k (λ et. drop k $
      let is : vs ≡ both (ptr_val d.at) (vbool d.held) ∷ [] = subst (λ (ts : List Val). vs ≡ vstruct (of_list (ptr_val d.at ∷ (ts ++ []))) ∷ []) et (subst (λ (ps : List Val). vs ≡ vstruct (of_list (ps ++ (vss.1.0 ++ []))) ∷ []) ep ev) in
      either_held k d.at d.held d.value
      (λ e f n. none n (subst (λ (t : Bool). vs ≡ both vnull (vbool t) ∷ []) f (subst (λ (p : Ptr). vs ≡ both (ptr_val p) (vbool d.held) ∷ []) e is)))
      (λ b o a s e f x. some b o a s x (subst (λ (t : Bool). vs ≡ both (vptr b o) (vbool t) ∷ []) f (subst (λ (p : Ptr). vs ≡ both (ptr_val p) (vbool d.held) ∷ []) e is)))))))

  pub handle_in : K → (p : Ptr) (t : Bool) (x : Option Store)
      → Step K 𝓛 (‵ (Handle.own_val (record { at = p; held = t; value = x }) (both (ptr_val p) (vbool t) ∷ [])) ∷ Γ) G (‵ (owned p t x) ∷ Γ) G
  handle_in k p t x = step (λ s. let v : Val = both (ptr_val p) (vbool t) in
      nothing k $ feq_i k (List Val) (vbool t ∷ []) (vbool t ∷ []) refl $ fjoin k $ feq_i k (List Val) (ptr_val p ∷ []) (ptr_val p ∷ []) refl $ fjoin k $ feq_i k (List Val) (v ∷ []) (v ∷ []) refl $ fjoin k $
      fpack k (Valss (RawPtr ∷ bool ∷ [])) (within (shape handle.the_type) (p, (t, tt)) (v ∷ [])) (ptr_val p ∷ [], (vbool t ∷ [], tt)) $ fjoin k $ s)
