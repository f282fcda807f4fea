-- In every state that is reached the fates count one run at least, and no more than a script asks for.
use Rattle.std.proofs.Common.{◌≤◌, ℕ, zero, suc, refl, sym, subst, inl, inr}
use Rattle.std.specs.List.{AllByRecursion}
use Rattle.ent_tree.specs.declared.declaration.Opening.{Opening}
use Rattle.ent_semantics.specs.declared.book.Fated.{Fated}
use Rattle.ent_protocol.specs.Event.{Event, Reply}
use Rattle.ent_protocol.specs.Reached.{IsReached, LeadsTo, opened}
use Rattle.ent_protocol.specs.Run.{Forms}
use Rattle.ent_protocol.specs.State.{Member, State, Submitted, members}
use Rattle.ent_protocol.specs.Step.{Step}
use Rattle.ent_protocol_laws.specs.Attempts.{AskForMost, AsksForRun, MayTakePart, StayBelow, StayWithin}
use Rattle.ent_protocol_laws.specs.Standing.{GoesOn}
use Rattle.ent_lists.specs.Elements.{In, all_first, of_all, to_all}
use Rattle.ent_program_laws.specs.Reportable.{CountsRuns}
use Rattle.ent_program_laws.proofs.Fated.{fates_from}

-- what is known of reached states
pub record Laws {F : Type 0} (forms : Forms F) : Type 0 where
  pub goes_on : (s : State) (event : Event) (reply : Reply F) (new : State) → Step forms s event reply new
      → GoesOn s new
  pub led : (n : ℕ) (first last : State) → IsReached forms first → LeadsTo forms n first last
      → IsReached forms last
  pub own : (s : State) → IsReached forms s → AllByRecursion AsksForRun s.submitted → StayWithin s
  pub most : (s : State) (most : ℕ) → IsReached forms s → AllByRecursion AsksForRun s.submitted
      → AskForMost most s → StayBelow most s

module _ {F : Type 0} (forms : Forms F) (laws : Laws forms) (most : ℕ) where
  abbrev Asked : State → Type 0
  Asked s = AllByRecursion AsksForRun s.submitted

  abbrev Counts : Fated → Type 0
  Counts fated = CountsRuns most fated.fate

  member_counts : (s : State) → IsReached forms s → Asked s → AskForMost most s → (m : Member) → In m (members s)
      → (1 ≤ m.attempt) × (m.attempt ≤ most)
  member_counts s reached asked few m at = (
    (of_all (MayTakePart s.submitted) (members s) m (laws.own s reached asked).members at).counted,
    of_all (λ (m : Member). m.attempt ≤ most) (members s) m (laws.most s most reached asked few).members at,
  )

  one_step : (s : State) (event : Event) (reply : Reply F) (new : State) → Step forms s event reply new
      → IsReached forms s → Asked s → AskForMost most s → AllByRecursion Counts s.fates
      → AllByRecursion Counts new.fates
  one_step s event reply new step reached asked few counts =
      to_all Counts new.fates (λ fated at.
      elim (fates_from forms s event reply new step fated at) [
        | inl old ↦ of_all Counts s.fates fated counts old
        | inr w ↦
            let c = member_counts s reached asked few w.0 w.1 in
            subst (λ n. (1 ≤ n) × (n ≤ most)) (sym w.2) c
      ])

  led_on : (n : ℕ) (opening : Opening) (last : State) → LeadsTo forms n (opened opening) last → Asked last
      → AskForMost most last → AllByRecursion Counts last.fates
  led_on zero opening last leads asked few =
      subst (λ (s : State). AllByRecursion Counts s.fates) (sym leads) tt
  led_on (suc n) opening last leads asked few =
      let before = leads.0 in
      let on = laws.goes_on before leads.1 leads.2 last leads.4 in
      let all = subst (AllByRecursion AsksForRun) on.behind asked in
      let within = subst (AllByRecursion (λ (own : Submitted). own.script.within ≤ most)) on.behind few in
      let asked_before = all_first AsksForRun before.submitted on.more all in
      let few_before = all_first (λ (own : Submitted). own.script.within ≤ most) before.submitted on.more within in
      one_step before leads.1 leads.2 last leads.4 (laws.led n (opened opening) before (0, refl) leads.3) asked_before
      few_before (led_on n opening before leads.3 asked_before few_before)

  pub fates_count : (s : State) → IsReached forms s → Asked s → AskForMost most s
      → AllByRecursion Counts s.fates
  fates_count s reached = led_on reached.0 s.opening s reached.1
