-- `into_raw` passes on what the pointer owns: the two structs are laid out alike.
use Rattle.std.proofs.Common.{◌≡◌, [], ◌∷◌, List, refl, sym, subst, ◌++◌}
use mir.Val.{Val}
use base.Logic.{SProp, ent, id⊢, emp}
use prog.Wp.{WpFn}
use types.Kit.{‵, raw, ◌⊛◌, ◌$◌, ◌∵◌, !, qed, by, move, keep, split, fsplit, fjoin, suffices, use0, use1}
use types.Run.{stop, fld, of_opd, no_more, and_then, returns, enter}
use types.ByLocal.{alloc_all, pass_all, free_all, look_at, get, get_in, sets}
use types.Part.{agg, sub, whole}
use contract.Monad.{fact, fact_i}
use contract.Running.{tables}
use denote.Exit.{yes}
use denote.RattleType.{RattleType, owns}
use denote.Signature.{types_at, plain}
use denote.RawPtr.{ptr_val}
use denote.Steps.{nothing}
use denote.Triple.Entry.{alive}
use denote.Triple.Walked.{Stays, stay_dropped, walk_of}
use Rattle.core.proofs.alloc.Calls.{Goes-blank}
use Rattle.core.proofs.atomic.Steps.{Ptr-Good}
use Rattle.std.proofs.raw_atomic.Walks.{proved_at, leaves}
use Rattle.ent_pointer.proofs.Values.{both}
use Rattle.ent_pointer.proofs.RawSteps.{raw_good, raw_out, raw_in}
use Rattle.ent_pointer.specs.contracts.RawBox as raws
use Rattle.ent_room_calls.specs.contracts.rows.GivenRows.{the_row as R}
use Rattle.ent_c.specs.contracts.rows_handle.RowsHandle as handles
use Rattle.ent_c.specs.contracts.rows_handle.RowsHandle.into_raw.{ended, clauses}
use Rattle.ent_c.specs.contracts.rows_handle.RowsHandle.into_raw.Key.{name as #self}
use Rattle.ent_c.proofs.rows_handle.RowsHandle.into_raw.Statement.{statement}
use Rattle.ent_c.proofs.rows_handle.RowsHandle.into_raw.Code as code

abbrev Raw : RattleType
Raw = raws.the_row R

abbrev RowsHandle : RattleType
RowsHandle = handles.the_row

abbrev stayed : Stays ended.signature.params ended.kept
stayed = (stay_dropped (plain (λ _. RowsHandle)) yes, tt)

pub into_raw_spec : {M : Type 1} → statement M
into_raw_spec 𝓤 𝓛 𝓜 𝓡 wired =
    let H = 𝓛.H in let 𝓣 = tables 𝓤 H 𝓜 𝓡 𝓡.env in let c = clauses 𝓛 𝓜.mem 𝓡.returns in let fn = code.function in
    proved_at 𝓛 ended stayed c 𝓜 𝓡 (Goes-blank 𝓛 0 (plain (λ _. RowsHandle)) yes (λ κs x f. tt), tt) #self fn
    (code.unfolded 𝓤 H 𝓜 𝓡 wired) (λ z are.
    let κs = z.0.0 in let qs = z.0.1 in let d = z.0.3.0 in let Post : Val → SProp 𝓤 =
    (walk_of 𝓛 ended stayed c).post z in let Run : List Val → SProp 𝓤 = λ ws. WpFn 𝓤 H 𝓣.C 𝓣.Λ fn ws Post in
    let same : Raw.Denot = record { at = d.at; alloc = d.alloc; held = d.held } in let passed : RowsHandle.Denot =
    record { at = d.at; alloc = d.alloc; held = d.held } in
    qed 𝓛 ((raw (alive 𝓛 ended.signature κs qs) ⊛ ‵ (owns (types_at ended.signature.params κs) z.0.3 z.0.4)) ∷ raw
    ((c κs z.0.3).requires z.1) ∷ []) ∵ split ! $ move ! (1 ∷ []) $ fsplit ! $
    use1 𝓛 (‵ (Raw.own_val same z.0.4.0)) (id⊢ 𝓤 _) $ raw_out R ! same z.0.4.0
    (λ h ws fits. let w : Val = both (ptr_val d.at) h in let typed = raw_good R d.at h fits in
    suffices ! (Run (w ∷ []))
    (subst (λ (us : List Val). ent 𝓤 (Run (w ∷ [])) (Run us)) (sym (λ i. ws i ++ [])) (id⊢ 𝓤 (Run (w ∷ [])))) $
    enter ! 𝓣.C 𝓣.Λ fn (w ∷ []) Post $ alloc_all ! (λ l. pass_all ! refl (typed, tt) $
    sets ! (of_opd ! (get_in ! (fld ! refl (stop !)) (sub ! 0 refl (whole !)))) refl (Ptr-Good d.at) $ sets !
    (of_opd ! (get_in ! (fld ! refl (stop !)) (sub ! 1 refl (whole !)))) refl fits $
    sets ! (of_opd ! (get ! refl)) refl (Ptr-Good d.at) $ sets !
    (agg ! (and_then ! (get ! refl) (and_then ! (get ! refl) (no_more !)))) refl typed $
    raw_in R ! d.at h d.alloc d.held $ use1 𝓛 (‵ (Raw.own_val same (w ∷ []))) (id⊢ 𝓤 _) $
    use0 𝓛 (raw (fact 𝓤 (d.held ≡ d.held))) (fact_i 𝓤 (d.held ≡ d.held) (emp 𝓤) refl) $ nothing ! $ nothing ! $ fjoin !
    $
    returns ! (look_at ! 0 refl) $ free_all ! refl $ keep ! (4 ∷ 0 ∷ 2 ∷ 1 ∷ []) $ by !
    (leaves 𝓛 ended stayed c z w same (tt, tt) (tt, tt)))))
