-- Members that leave a list.
use Rattle.std.proofs.Common.{◌≡◌, ℕ, suc, ◌<◌, Bool, not, ◌||◌, ◌==◌, if◌then◌else◌, List}
use Rattle.std.proofs.Common.{[], ◌∷◌, ◌++◌, length, map, take, drop, get_or, refl, sym, ap, subst, ◌∙◌, arith}
use Rattle.std.specs.Prelude.{filter}
use Rattle.std.specs.List.{remove, list_any}
use Rattle.std.proofs.lemmas.List.{length-append, length-take, length-drop}
use Rattle.ent_lists.specs.Elements.{shorter}
use Rattle.ent_protocol.specs.Member.{is_tx}
use Rattle.ent_protocol.specs.Rollback.{is_among}
use Rattle.ent_protocol.specs.State.{Member}
use Rattle.ent_run.specs.Moves.{is_not_of}
use Rattle.ent_members.specs.Order.{IsAscending, tx_of}
use Rattle.ent_run.specs.Run.{IsRun}
use Rattle.ent_run.proofs.Ascending.{ascending_filter, run_by_number}
use Rattle.ent_run.proofs.OneMember.{removed_at}

pub run_filtered : (p : Member → Bool) (prepared active : List Member) → IsRun prepared active
    → IsRun (filter p prepared) (filter p active)
run_filtered p prepared active run =
    run_by_number (filter p prepared) (filter p active)
    (omega (arith, run.bound, shorter p prepared, shorter p active)) (ascending_filter p active run.ascending)

pub run_prepared : (prepared active : List Member) (i : ℕ) (d member : Member) → i < length active
    → IsRun prepared active → IsRun (prepared ++ member ∷ []) (remove active i)
run_prepared prepared active i d member lt run =
    run_by_number (prepared ++ member ∷ []) (remove active i)
    (omega (
      arith,
      lt,
      run.bound,
      length-append prepared (member ∷ []),
      length-append (take i active) (drop (suc i) active),
      length-take i active,
      length-drop (suc i) active,
    ))
    (subst (λ ms. IsAscending (map tx_of ms)) (sym (removed_at active i d run.distinct lt))
    (ascending_filter (λ other. not (is_tx (get_or active i d).tx other)) active run.ascending))

pub among_if : (gone : List Member) (tx : ℕ)
    → list_any (λ n. n == tx) (map tx_of gone) ≡ is_among gone tx
among_if [] tx = refl
among_if (x ∷ gone) tx = ap (λ b. (x.tx == tx) || b) (among_if gone tx)

pub filtered_out : (gone xs : List Member)
    → filter (is_not_of (map tx_of gone)) xs ≡ filter (λ member. not (is_among gone member.tx)) xs
filtered_out gone [] = refl
filtered_out gone (x ∷ xs) =
    ap (λ b. if not b then x ∷ filter (is_not_of (map tx_of gone)) xs else filter (is_not_of (map tx_of gone)) xs)
    (among_if gone x.tx)
    ∙ ap (λ ms. if not (is_among gone x.tx) then x ∷ ms else ms) (filtered_out gone xs)

pub run_committed : (p : Member → Bool) (prepared active : List Member) → IsRun prepared active
    → IsRun (filter p prepared) active
run_committed p prepared active run =
    run_by_number (filter p prepared) active (omega (arith, run.bound, shorter p prepared)) run.ascending
