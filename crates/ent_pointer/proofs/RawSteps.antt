-- A `RawBox` taken apart and put together. Assumes `Logic`.
--     raw_good               the machine value of a `RawBox`, a pointer and a handle, has its type
--     raw_out, raw_in        a `RawBox` by value is [what the pointer owns; the handle]
--     held_cases             the pointer is null, or owns a value and may be compared with null
use Rattle.std.proofs.Common.{◌≡◌, List, [], ◌∷◌, ◌++◌, refl, subst, lit<}
use seplogic.Ra.Ura.{Ura}
use mir.Syntax.{impl, tnil, dnil}
use mir.Raw.{raw as bare}
use mir.Val.{Val, vstruct, of_list, has_ty}
use base.Fraction.{full_share}
use base.Logic.{ent, guard, via, never, fst∗, snd∗, guard_i}
use contract.Monad.{fact_use}
use types.Logic.{Logic, sem}
use types.Kit.{Item, Goal, Seq, Step, step, ‵, given, ◌$◌, move, drop, fsplit, fjoin, fpick, fpack, feq_i, feq_l, use1}
use types.Kit.{learn}
use denote.RattleType.{RattleType, Valss}
use denote.Builtin.{RawPtr}
use denote.Memory.{lone}
use denote.RawPtr.{Ptr, block_ptr, null_ptr, ptr_val, in_a_block, lies_at, Testable}
use denote.Steps.{nothing}
use denote.Param.{layout}
use denote.Struct.Struct.{within}
use denote.Struct.Owning.{shape}
use Rattle.core.proofs.alloc.Calls.{Al, handle_tells}
use Rattle.core.proofs.cell.Inside.{Good}
use Rattle.std.specs.Box.Ownership.{box_owns}
use Rattle.std.specs.declared.alloc.Global.{Global}
use Rattle.std.specs.declared.option.Option.{Option}
use Rattle.std.specs.declared.option.Option.TheVariants.{None, Some}
use Rattle.std.specs.contracts.alloc.Global as heap
use Rattle.std.proofs.alloc.Global.TheLaws as heap_laws
use Rattle.std.specs.contracts.impls.GlobalAllocator.TheImpl.{ghosts}
use Rattle.std.proofs.GlobalToken.{dealloc_token-Testable}
use Rattle.std_alloc.proofs.ResultValues.{and_tt}
use Rattle.ent_pointer.proofs.Values.{both}
use Rattle.ent_pointer.specs.Handle.{held_at}
use Rattle.ent_pointer.specs.contracts.RawBox as raws

abbrev pub Z : RattleType
Z = heap.the_row

abbrev pub al : Al
al = record {
  row = heap.the_row;
  laws = heap_laws.the_row_laws;
  g = ghosts;
  d = impl [] tnil dnil;
  drops = impl [] tnil
      dnil;
}

module _ (R : RattleType) where
  abbrev pub Raw : RattleType
  Raw = raws.the_row R

  pub raw_good : (p : Ptr) (h : Val) → Good (layout Z) h → Good (layout Raw) (both (ptr_val p) h)
  raw_good (block_ptr b o) h fits = (and_tt (has_ty (layout Z) h) fits.0, (tt, (fits.1, tt)))
  raw_good null_ptr h fits = (and_tt (has_ty (layout Z) h) fits.0, (record { fits = lit< tt }, (fits.1, tt)))

  module _ {M : Type 1} {𝓤 : Ura M} {𝓛 : Logic 𝓤} {K : Type 0} {Γ : List (Item 𝓤)} {G : Goal 𝓤 𝓛.H} where
    pub raw_out : K → (d : Raw.Denot) (vs : List Val)
        → ((h : Val) → vs ≡ both (ptr_val d.at) h ∷ [] → Good (layout Z) h
        → Seq K 𝓛 (‵ (held_at R d.alloc d.at d.held) ∷ ‵ (Z.own_val d.alloc (h ∷ [])) ∷ Γ) G)
        → Seq K 𝓛 (‵ (Raw.own_val d vs) ∷ Γ) G
    raw_out t d vs k =
        fsplit t $ fpick t (λ vss. fsplit t $ feq_l t
        (λ ev. fsplit t $ feq_l t
        (λ ep. fsplit t $ handle_tells al t d.alloc vss.1.0
        (λ h ea fits. move t (1 ∷ []) $ drop t $ move t (1 ∷ []) $ k h
        (subst (λ (ws : List Val). vs ≡ vstruct (of_list (ptr_val d.at ∷ (ws ++ []))) ∷ []) ea
        (subst (λ (ps : List Val). vs ≡ vstruct (of_list (ps ++ (vss.1.0 ++ []))) ∷ []) ep ev)) fits))))

    pub raw_in : K → (p : Ptr) (h : Val) (a : Global) (x : Option R.Denot)
        → Step K 𝓛 (‵ (Raw.own_val (record { at = p; alloc = a; held = x }) (both (ptr_val p) h ∷ [])) ∷ Γ) G
        (‵ (held_at R a p x) ∷ ‵ (Z.own_val a (h ∷ [])) ∷ Γ) G
    raw_in t p h a x = step (λ s. let v : Val = both (ptr_val p) h in
        nothing t $ move t (2 ∷ 0 ∷ []) $ fjoin t $ feq_i t (List Val) (ptr_val p ∷ []) (ptr_val p ∷ []) refl $ fjoin t
        $ feq_i t (List Val) (v ∷ []) (v ∷ []) refl $ fjoin t $
        fpack t (Valss (RawPtr ∷ Z ∷ [])) (within (shape (raws.the_type R)) (p, (_, tt)) (v ∷ []))
        (ptr_val p ∷ [], (h ∷ [], tt)) $ fjoin t $ s)

module _ {M : Type 1} {𝓤 : Ura M} (𝓛 : Logic 𝓤) (R : RattleType) (a : Global) where
  tested : (p : Ptr) (x : R.Denot)
      → ent 𝓤 (sem 𝓛 (box_owns (ghosts.dealloc_token a) R p x))
      (guard 𝓤 (Testable p) (sem 𝓛 (box_owns (ghosts.dealloc_token a) R p x)))
  tested p x = fact_use 𝓤 (Testable p)
      (via 𝓤 _ (snd∗ 𝓤 (sem 𝓛 (lies_at R full_share p x)) (sem 𝓛 (ghosts.dealloc_token a (bare (lone R.mir)) p)))
      (dealloc_token-Testable 𝓛 a (bare (lone R.mir)) p))
      (guard_i 𝓤 (Testable p) (sem 𝓛 (box_owns (ghosts.dealloc_token a) R p x)))

module _ (R : RattleType) (a : Global) {M : Type 1} {𝓤 : Ura M} {𝓛 : Logic 𝓤} {K : Type 0} {Γ : List (Item 𝓤)}
    {G : Goal 𝓤 𝓛.H} where
  pub held_cases : K → (p : Ptr) (held : Option R.Denot) → (p ≡ null_ptr → held ≡ None → Seq K 𝓛 Γ G)
      → ((b o : _) (x : R.Denot) → p ≡ block_ptr b o → held ≡ Some x → Testable (block_ptr b o)
      → Seq K 𝓛 (‵ (box_owns (ghosts.dealloc_token a) R (block_ptr b o) x) ∷ Γ) G)
      → Seq K 𝓛 (‵ (held_at R a p held) ∷ Γ) G
  held_cases t p None none one = feq_l t (λ e. none e refl)
  held_cases t p (Some x) none one =
      in_a_block t p (λ p. box_owns (ghosts.dealloc_token a) R p x)
      (fst∗ 𝓤 (never 𝓤) (sem 𝓛 (ghosts.dealloc_token a (bare (lone R.mir)) null_ptr))) (λ b o e.
      use1 𝓛 (given (Testable (block_ptr b o)) (‵ (box_owns (ghosts.dealloc_token a) R (block_ptr b o) x)))
      (tested 𝓛 R a (block_ptr b o) x) $ learn t (λ u. one b o x e refl u))
