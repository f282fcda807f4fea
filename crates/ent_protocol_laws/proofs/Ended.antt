-- Members that are left at the end of a run.
use Rattle.std.proofs.Common.{◌≡◌, ◌↔◌, inl, inr, ℕ, suc, Bool, true, false, ◌==◌, List, []}
use Rattle.std.proofs.Common.{map, refl, sym, ap, subst, ◌∙◌, Some, None, Contains}
use Rattle.std.specs.List.{filter, filter_map}
use Rattle.ent_tree.specs.declared.declaration.Opening.{Opening}
use Rattle.ent_semantics.specs.Serial.{numbered}
use Rattle.ent_semantics.specs.declared.book.Fate.{Fate}
use Rattle.ent_semantics.specs.declared.book.Fate.TheVariants.{GaveUp}
use Rattle.ent_semantics.specs.declared.book.Fated.{Fated}
use Rattle.ent_protocol.specs.Event.{Event, Reason, Reply}
use Rattle.ent_protocol.specs.Event as events
use Rattle.ent_protocol.specs.Reached.{IsReached, LeadsTo, opened}
use Rattle.ent_protocol.specs.Rollback.{Cause, NoOne, dormant_by, fated_by, group_members, is_last_run}
use Rattle.ent_protocol.specs.Rollback.{own_fate, taken_out}
use Rattle.ent_protocol.specs.Member.{is_of}
use Rattle.ent_protocol.specs.Run.{EndsWhileRunning, Forms, ending}
use Rattle.ent_protocol.specs.State.{State, Dormant, Member, Submitted, by_number, members}
use Rattle.ent_protocol.specs.Step.{Step}
use Rattle.ent_protocol_laws.specs.Standing.{GoesOn, StandOnce}
use Rattle.ent_protocol_laws.specs.Last.{HasGivenUp, WaitsAgain}
use Rattle.ent_lists.specs.Elements.{In, clash, contains_in, in_contains, in_second, index_pairs, not_so, pairs_across}
use Rattle.ent_lists.specs.Elements.{number_itself, pairs_second, same_number, to_filter, to_map}
use Rattle.ent_lists.proofs.Lists.{to_filter_map}
use Rattle.ent_protocol_laws.specs.Numbered.{to_by_number}
use Rattle.ent_protocol_laws.proofs.Left.{tx_of}

-- ---- one of those that are left

-- a member among those that leave, whose cause gives it no fate
module _ (s : State) (gone : List Member) (cause : Cause) (member : Member) (own : Submitted)
    (is_own : numbered s.submitted member.tx ≡ Some own) (at : In member gone) (unfated : own_fate cause member ≡ None)
  where
    last_is : is_last_run s.submitted member ≡ (member.attempt == own.script.within)
    last_is = rw is_own refl

    abbrev left : List Member
    left = by_number tx_of gone

    pub gives_up : member.attempt ≡ own.script.within
        → In (record { tx = member.tx; fate = GaveUp member.attempt }) (taken_out gone cause s).fates
    gives_up same =
        in_second s.fates (filter_map (fated_by s.submitted cause) left)
        (record { tx = member.tx; fate = GaveUp member.attempt })
        (to_filter_map (fated_by s.submitted cause) left member _ (to_by_number tx_of gone member at) fated)
      where
        last : is_last_run s.submitted member ≡ true
        last = last_is ∙ ap (λ n. n == own.script.within) same ∙ number_itself own.script.within

        fated : fated_by s.submitted cause member ≡ Some (record { tx = member.tx; fate = GaveUp member.attempt })
        fated = rw (unfated, last) refl

    pub waits : (member.attempt ≡ own.script.within → ⊥)
        → In (record { tx = member.tx; runs = member.attempt }) (taken_out gone cause s).dormant
    waits differ =
        in_second s.dormant (filter_map (dormant_by s.submitted cause) left)
        (record { tx = member.tx; runs = member.attempt })
        (to_filter_map (dormant_by s.submitted cause) left member _ (to_by_number tx_of gone member at) asleep)
      where
        not_last : is_last_run s.submitted member ≡ false
        not_last =
            last_is ∙ not_so (member.attempt == own.script.within)
            (λ e. differ (same_number member.attempt own.script.within e))

        asleep : dormant_by s.submitted cause member ≡ Some (record { tx = member.tx; runs = member.attempt })
        asleep = rw (unfated, not_last) refl

-- one whose cause gives it a fate
pub has_own : (s : State) (gone : List Member) (cause : Cause) (member : Member) (fate : Fate) → In member gone
    → own_fate cause member ≡ Some fate → In (record { tx = member.tx; fate = fate }) (taken_out gone cause s).fates
has_own s gone cause member fate at is =
    in_second s.fates (filter_map (fated_by s.submitted cause) (by_number tx_of gone))
    (record { tx = member.tx; fate = fate })
    (to_filter_map (fated_by s.submitted cause) (by_number tx_of gone) member _ (to_by_number tx_of gone member at)
    (rw is refl))

-- the members of a group
pub of_group : (s : State) (group : ℕ) (member : Member) → Contains (members s) member → member.group ≡ group
    → In member (group_members s group)
of_group s group member there same =
    to_by_number tx_of (filter (is_of group) (members s)) member
    (to_filter (is_of group) (members s) member (contains_in (members s) member there)
    (ap (λ n. n == group) same ∙ number_itself group))

-- ---- not both

abbrev Differ : ℕ → ℕ → Type 0
Differ one other = one ≡ other → ⊥

never_both : (new : State) (tx : ℕ) (fated : Fated) (dormant : Dormant) → StandOnce new → In fated new.fates
    → In dormant new.dormant → fated.tx ≡ tx → dormant.tx ≡ tx → ⊥
never_both new tx fated dormant once of_fate of_dormant one other =
    pairs_across Differ (map (λ (d : Dormant). d.tx) new.dormant) (map (λ (f : Fated). f.tx) new.fates) dormant.tx
    fated.tx (pairs_second Differ (map tx_of (members new)) _ (index_pairs Differ _ once.distinct))
    (to_map (λ (d : Dormant). d.tx) new.dormant dormant of_dormant)
    (to_map (λ (f : Fated). f.tx) new.fates fated of_fate) (other ∙ sym one)

-- ---- the end of a run

module _ {F : Type 0} where
  not_now : (run : List ℕ) → ◌≡◌ {A = Reply F} (events.Ended run) events.NotNow → ⊥
  not_now run e = cc

  not_busy : (run : List ℕ) (reason : Reason) → ◌≡◌ {A = Reply F} (events.Ended run) (events.Busy reason) → ⊥
  not_busy run reason e = cc

  ended : (s : State) (running : Bool) (run : List ℕ) (reply : Reply F) (new : State) → reply ≡ events.Ended run
      → EndsWhileRunning s running reply new → new ≡ ending s
  ended s false run reply new is step = absurd (not_now run (sym is ∙ step.0))
  ended s true run reply new is (inl step) = step.2
  ended s true run reply new is (inr step) = absurd (not_busy run step.0 (sym is ∙ step.2.0))

  -- what follows a reached state is reached
  pub reached_on : (forms : Forms F) (s : State) (event : Event) (reply : Reply F) (new : State) → GoesOn s new
      → IsReached forms s → Step forms s event reply new → IsReached forms new
  reached_on forms s event reply new on reached step = (
    suc reached.0,
    subst (λ (opening : Opening). LeadsTo forms (suc reached.0) (opened opening) new) (sym on.opening)
        (s, event, reply, reached.1, step),
  )

  module _ (forms : Forms F) (s : State) (run : List ℕ) (new : State) (member : Member) (own : Submitted)
      (once : StandOnce new) (step : Step forms s events.EndRun (events.Ended run) new)
      (there : Contains (members s) member) (is_own : numbered s.submitted member.tx ≡ Some own) where
    is_end : new ≡ ending s
    is_end = ended s s.running run (events.Ended run) new refl step

    at : In member (members s)
    at = contains_in (members s) member there

    given_up : member.attempt ≡ own.script.within → HasGivenUp new member
    given_up same =
        in_contains new.fates _
        (subst (λ (x : State). In (record { tx = member.tx; fate = GaveUp member.attempt }) x.fates) (sym is_end)
        (gives_up s (members s) NoOne member own is_own at refl same))

    waiting : (member.attempt ≡ own.script.within → ⊥) → WaitsAgain new member
    waiting differ =
        in_contains new.dormant _
        (subst (λ (x : State). In (record { tx = member.tx; runs = member.attempt }) x.dormant) (sym is_end)
        (waits s (members s) NoOne member own is_own at refl differ))

    not_both : HasGivenUp new member → WaitsAgain new member → ⊥
    not_both up again =
        never_both new member.tx _ _ once (contains_in new.fates _ up) (contains_in new.dormant _ again) refl refl

    by_runs : (b : Bool) → (member.attempt == own.script.within) ≡ b → HasGivenUp new member
        → member.attempt ≡ own.script.within
    by_runs true is up = same_number member.attempt own.script.within is
    by_runs false is up =
        absurd (not_both up (waiting (λ same. clash (member.attempt == own.script.within)
        (ap (λ n. n == own.script.within) same ∙ number_itself own.script.within) is)))

    pub up_exactly : HasGivenUp new member ↔ (member.attempt ≡ own.script.within)
    up_exactly = (by_runs (member.attempt == own.script.within) refl, given_up)

    pub again_exactly : WaitsAgain new member ↔ (member.attempt ≡ own.script.within → ⊥)
    again_exactly = (λ again same. not_both (given_up same) again, waiting)
