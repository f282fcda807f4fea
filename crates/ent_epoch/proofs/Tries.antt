-- The tries of scripts that ask for one run each.
use Rattle.std.proofs.Common.{◌≡◌, ◌∙◌, ◌+◌, ◌<◌, ◌≤◌, ℕ, suc, Bool, true, false, List, [], ◌∷◌, length, refl}
use Rattle.std.proofs.Common.{sym, ap, subst, Some, arith, Result, Ok, Err, length-append, nat_le}
use Rattle.ent_tree.specs.declared.limits.TheConstants.{MOST_SCRIPTS}
use Rattle.ent_tree.specs.declared.script.Script.{Script}
use Rattle.ent_semantics.specs.declared.operand.Known.{Known}
use Rattle.ent_semantics.specs.declared.statement.Statement.{Statement}
use Rattle.std.specs.List.{AllByRecursion, sum_by}
use Rattle.std.proofs.Math.ListN.{drop_of_length-le}
use Rattle.std.proofs.lemmas.List.Sums.{sum_by-cons}
use Rattle.std.proofs.lemmas.List.{nil_from_length}
use Rattle.ent_lists.proofs.Lists.{all_behind}
use Rattle.ent_form.specs.declared.fault.FormFault.{FormFault}
use Rattle.ent_group.specs.declared.members.TheConstants.{MOST_MEMBERS}
use Rattle.ent_sched.specs.Passed.{resolved_forms}
use Rattle.ent_protocol.specs.Event.{Reply, StartRun, Submit, Submitted}
use Rattle.ent_protocol.specs.Reached.{CanClose}
use Rattle.ent_protocol.specs.Run.{StartsWith, SubmitsForm, SubmitsUnless, starting, submitting}
use Rattle.ent_protocol.specs.State.{State, Submitted as Own, Dormant, Member, members}
use Rattle.ent_protocol.specs.Step.{Step}
use Rattle.ent_protocol_laws.specs.Attempts.{AskForMost, HasRunLeft, MayTakePart, StayWithin}
use Rattle.ent_semantics.specs.Serial.{numbered}
use Rattle.ent_semantics.proofs.Numbered.{of_numbered}
use Rattle.ent_protocol_laws.specs.Tries.{present_run, runs_beyond, tries_left}
use Rattle.ent_epoch.specs.Epoch.{AddsOne}
use Rattle.ent_epoch.specs.OneRun.{AreForOneRun}

module _ (submitted : List Own) (once : AllByRecursion (λ (own : Own). own.script.within ≤ 1) submitted) where
  bound : (own : Own) (tx : ℕ) → numbered submitted tx ≡ Some own → own.script.within ≤ 1
  bound own tx e = of_numbered (λ (own : Own). own.script.within ≤ 1) submitted tx own once e

  one_each : (dormant : List Dormant) → AllByRecursion (HasRunLeft submitted) dormant
      → sum_by (λ (d : Dormant). runs_beyond submitted d.tx d.runs) dormant ≡ length dormant
  one_each [] all = refl
  one_each (d ∷ more) all =
      let own = all.0 in
      let low = own.left in
      let high = bound own.own d.tx own.is_own in
      let one : runs_beyond submitted d.tx d.runs ≡ 1 = rw own.is_own (omega (arith, low, high)) in
      let rest = one_each more all.1 in
      let parts = sum_by-cons (λ (d : Dormant). runs_beyond submitted d.tx d.runs) d more in
      omega (arith, one, rest, parts)

  none_each : (ms : List Member) → AllByRecursion (MayTakePart submitted) ms
      → sum_by (λ (m : Member). runs_beyond submitted m.tx m.attempt) ms ≡ 0
  none_each [] all = refl
  none_each (m ∷ more) all =
      let own = all.0 in
      let low = own.counted in
      let high = bound own.own m.tx own.is_own in
      let none : runs_beyond submitted m.tx m.attempt ≡ 0 = rw own.is_own (omega (arith, low, high)) in
      let rest = none_each more all.1 in
      let parts = sum_by-cons (λ (m : Member). runs_beyond submitted m.tx m.attempt) m more in
      omega (arith, none, rest, parts)

-- only those who wait have a try left, one each; and the present run is one
pub tries_counted : (s : State) → StayWithin s → AskForMost 1 s → tries_left s
    ≡ length s.dormant + present_run s.running
tries_counted s within once =
    let waiting = one_each s.submitted once s.dormant within.dormant in
    let running = none_each s.submitted once (members s) within.members in
    omega (arith, waiting, running)

-- ---- events

pub recalled_kept : (s new : State) → new ≡ record s { lent = [] } → AreForOneRun s → AreForOneRun new
recalled_kept s new is kept =
    subst (λ (t : State). AreForOneRun t) (sym is)
    (let t : State = record s { lent = [] } in record { once = kept.once; fit = kept.fit; alone = kept.alone })

starting_kept : (s : State) → s.running ≡ false → AreForOneRun s → AreForOneRun (starting s)
    × ((starting s).dormant ≡ [])
starting_kept s off kept =
    let none = drop_of_length-le s.dormant (kept.fit off) in
    (record { once = kept.once; fit = λ e. absurd cc; alone = λ e. none }, none)

module _ (s new : State) (reply : Reply FormFault) (kept : AreForOneRun s) where
  by_start : (running : Bool) (dormant : List Dormant) → s.running ≡ running → s.dormant ≡ dormant
      → StartsWith s running dormant reply new → AreForOneRun new × (new.dormant ≡ [])
  by_start true dormant on waits step =
      let same = sym step.1 in
      subst (λ (t : State). AreForOneRun t × (t.dormant ≡ [])) same (kept, kept.alone on)
  by_start false [] off waits step =
      let same = sym step.1 in
      subst (λ (t : State). AreForOneRun t × (t.dormant ≡ [])) same (kept, waits)
  by_start false (first ∷ more) off waits step =
      subst (λ (t : State). AreForOneRun t × (t.dormant ≡ [])) (sym step.1) (starting_kept s off kept)

  pub started_kept : Step resolved_forms s StartRun reply new → AreForOneRun new × (new.dormant ≡ [])
  started_kept step = by_start s.running s.dormant refl refl step

at_most_one : (b : Bool) → present_run b ≤ 1
at_most_one true = omega arith
at_most_one false = omega arith

present_on : (b : Bool) → b ≡ true → present_run b ≡ 1
present_on true e = refl
present_on false e = absurd cc

present_off : (b : Bool) → b ≡ false → present_run b ≡ 0
present_off false e = refl
present_off true e = absurd cc

module _ (s new : State) (none : s.dormant ≡ []) (submitted : new.submitted ≡ s.submitted)
    (before : tries_left s ≡ length s.dormant + present_run s.running)
    (after : tries_left new ≡ length new.dormant + present_run new.running) where
  none_counted : length s.dormant ≡ 0
  none_counted = ap length none

  pub led_on_kept : AreForOneRun s → tries_left new ≤ tries_left s → AreForOneRun new
  led_on_kept kept fewer =
      let one = at_most_one s.running in
      record {
        once = subst (λ (own : List Own). AllByRecursion (λ (x : Own). x.script.within ≤ 1) own) (sym submitted)
            kept.once;
        fit = λ off. omega (arith, one, none_counted, before, after, fewer);
        alone = λ on. let here = present_on new.running on in
            nil_from_length new.dormant (omega (arith, one, none_counted, before, after, fewer, here));
      }

  by_running : (running : Bool) → s.running ≡ running → new.running ≡ false
      → (¬ CanClose s → tries_left new < tries_left s)
      → (CanClose s → new ≡ s) → CanClose new
  by_running false off ended uses same = subst (λ (t : State). CanClose t) (sym (same (off, none))) (off, none)
  by_running true on ended uses same =
      let less = uses (λ can. absurd (let e = sym on ∙ can.0 in cc)) in
      let one = at_most_one s.running in
      (ended, nil_from_length new.dormant (omega (arith, one, none_counted, before, after, less)))

  pub ended_closes : new.running ≡ false → (¬ CanClose s → tries_left new < tries_left s) → (CanClose s → new ≡ s)
      → CanClose new
  ended_closes ended uses same = by_running s.running refl ended uses same

-- ---- a script comes in

-- what holds once a script is in
record IsIn (s : State) (tx : ℕ) (new : State) : Type 0 where
  for_one : AreForOneRun new
  one_more : length new.submitted ≡ length s.submitted + 1
  next : tx ≡ length s.submitted + 1
  adds : AddsOne s new

module _ (s new : State) (script : Script) (tx : ℕ) (kept : AreForOneRun s) (off : s.running ≡ false)
    (room : length s.dormant < MOST_MEMBERS) (within : script.within ≤ 1) where
  came_in : (form : List (Statement Known)) → tx ≡ suc (length s.submitted) → IsIn s tx (submitting s script form)
  came_in form number =
      let more = length-append s.dormant (record { tx = suc (length s.submitted); runs = 0 } ∷ []) in
      let many = length-append s.submitted (record { script = script; form = form } ∷ []) in
      record {
        for_one = record {
          once = all_behind (λ (x : Own). x.script.within ≤ 1) s.submitted (record { script = script; form = form })
              kept.once within;
          fit = λ e. omega (arith, more, room);
          alone = λ on. absurd (let e = sym off ∙ on in cc);
        };
        one_more = omega (arith, many);
        next = omega (arith, number);
        adds = record {
          opening = refl;
          running = refl;
          dormant = omega (arith, more);
          submitted = omega (arith, many);
        };
      }

  by_form : (form : Result (List (Statement Known)) FormFault)
      → SubmitsForm s script form (Submitted tx) new → IsIn s tx new
  by_form (Ok form) step =
      let number : tx ≡ suc (length s.submitted) = let e = step.0 in cc in
      subst (λ (t : State). IsIn s tx t) (sym step.1) (came_in form number)
  by_form (Err fault) step = absurd (let e = step.0 in cc)

  by_limit : (full : Bool) → SubmitsUnless full resolved_forms s script (Submitted tx) new → IsIn s tx new
  by_limit true step = absurd (let e = step.0 in cc)
  by_limit false step = by_form (resolved_forms.resolve s.opening script) step

  is_in : Step resolved_forms s (Submit script) (Submitted tx) new → IsIn s tx new
  is_in step = by_limit (nat_le MOST_SCRIPTS (length s.submitted)) step

  pub submitted_kept : Step resolved_forms s (Submit script) (Submitted tx) new → AreForOneRun new
  submitted_kept step = (is_in step).for_one

  pub submitted_counted : Step resolved_forms s (Submit script) (Submitted tx) new
      → length new.submitted ≡ length s.submitted + 1
  submitted_counted step = (is_in step).one_more

  pub submitted_next : Step resolved_forms s (Submit script) (Submitted tx) new → tx ≡ length s.submitted + 1
  submitted_next step = (is_in step).next

  pub submitted_adds : Step resolved_forms s (Submit script) (Submitted tx) new → AddsOne s new
  submitted_adds step = (is_in step).adds
