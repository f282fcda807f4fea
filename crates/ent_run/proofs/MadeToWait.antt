-- Who is made to wait by the holders of one table, and by those of others.
use Rattle.std.proofs.Common.{◌≡◌, ◌⊎◌, inl, inr, ℕ, true, false, not, ◌&&◌, List, ◌∷◌, sym, ap, subst, ◌∙◌}
use Rattle.std.proofs.Common.{true≢false}
use Rattle.std.specs.Prelude.{◌↔◌, Contains}
use Rattle.std.specs.List.{list_any}
use Rattle.ent_lists.specs.Elements.{and_both, both_and}
use Rattle.ent_group.specs.declared.groups.Membership.{Membership}
use Rattle.ent_lock.specs.declared.holders.Holder.{Holder}
use Rattle.ent_lock.specs.declared.mode.Mode.{Mode}
use Rattle.ent_lock.specs.Mode.{in_conflict}
use Rattle.ent_lock.specs.Use.{Holds, Uses, key_of_number}
use Rattle.ent_protocol.specs.State.{Member, Use}
use Rattle.ent_run.specs.Passing.{Asker, passes}
use Rattle.ent_run.specs.Waits.{IsMadeToWait, is_awaited_over, makes_wait}
use Rattle.ent_run.proofs.Lists.{any_of, contains_cases, contains_first, contains_later, some_of}
use Rattle.ent_run.proofs.Locked.{is_not}

abbrev pub AreHolders : Uses → Use → List Holder → Type 0
AreHolders locks own holders =
    (tx : ℕ) (mode : Mode)
    → Contains holders (record { holder = tx; mode = mode }) ↔ Holds locks tx (key_of_number own.table) mode

module _ (locks : Uses) (groups : List Membership) (asker : Asker) (group : ℕ) (other : Member) where
  pub by_first : (first : Use) (rest : List Use) (holders : List Holder) → AreHolders locks first holders
      → list_any (makes_wait first.mode asker groups group other) holders ≡ true
      → IsMadeToWait locks groups (first ∷ rest) (passes asker) group other
  by_first first rest holders are any =
      let one = some_of (makes_wait first.mode asker groups group other) holders any in
      let held = one.0 in
      let parts = and_both (in_conflict held.mode first.mode)
      (not (passes asker held.holder) && is_awaited_over groups group other held.holder) one.2 in
      let more = and_both (not (passes asker held.holder)) (is_awaited_over groups group other held.holder) parts.1 in (
        held.holder,
        (
          is_not (passes asker held.holder) more.0,
          (first, contains_first first rest, (held.mode, (are held.holder held.mode).0 one.1, parts.0)),
        ),
        more.1,
      )

  pub by_others : (first : Use) (rest : List Use) → IsMadeToWait locks groups rest (passes asker) group other
      → IsMadeToWait locks groups (first ∷ rest) (passes asker) group other
  by_others first rest (v, (apart, (own, there, conflict)), over) =
      (v, (apart, (own, contains_later first own rest there, conflict)), over)

  pub not_by_first : (first : Use) (rest : List Use) (holders : List Holder) → AreHolders locks first holders
      → list_any (makes_wait first.mode asker groups group other) holders ≡ false
      → IsMadeToWait locks groups (first ∷ rest) (passes asker) group other
      → IsMadeToWait locks groups rest (passes asker) group other
  not_by_first first rest holders are none (v, (apart, (own, there, (theirs, holds, conflict))), over) =
      by_cases (contains_cases first own rest there)
    where
      held : Holder
      held = record { holder = v; mode = theirs }

      here : first ≡ own → ⊥
      here same =
          let inside = (are v theirs).1
          (subst (λ (u : Use). Holds locks v (key_of_number u.table) theirs) (sym same) holds) in
          let way : in_conflict theirs first.mode ≡ true =
          ap (λ (u : Use). in_conflict theirs u.mode) same ∙ conflict in
          true≢false (sym (any_of (makes_wait first.mode asker groups group other) holders held inside
          (both_and (in_conflict theirs first.mode)
          (not (passes asker v) && is_awaited_over groups group other v) way
          (both_and (not (passes asker v)) (is_awaited_over groups group other v) (ap not apart) over)))
          ∙ none)

      by_cases : (first ≡ own) ⊎ Contains rest own → IsMadeToWait locks groups rest (passes asker) group other
      by_cases (inl same) = absurd (here same)
      by_cases (inr later) = (v, (apart, (own, later, (theirs, holds, conflict))), over)
