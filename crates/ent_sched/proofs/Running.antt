-- A recall and runs, as far as they have come.
use Rattle.std.proofs.Common.{◌≡◌, ◌∙◌, ◌+◌, ℕ, List, [], ◌∷◌, ◌++◌, map, refl, ap, subst, arith, false}
use Rattle.std.proofs.lemmas.List.Sums.{sum_by-append}
use Rattle.ent_value.specs.Ticks.{ticked}
use Rattle.ent_semantics.specs.Database.{Database}
use Rattle.ent_semantics.specs.declared.book.Book.{Book}
use Rattle.ent_protocol.specs.Event.{Recall, Reply}
use Rattle.ent_protocol.specs.Reached.{CanClose, IsFinished, IsFinishedBook, LeadsTo, book_of, scripts_of}
use Rattle.ent_protocol.specs.Run.{Forms}
use Rattle.ent_protocol.specs.State.{State, Submitted}
use Rattle.ent_sched.specs.Bounds.{events_of_run}
use Rattle.ent_sched.specs.Onward.{LeadsOn, TicksOn}
use Rattle.ent_sched.specs.RunOut.{IsRunOut}
use Rattle.ent_sched.specs.Runs.{AreRuns, IsRun, RunsInto, RunsOn, RunsOut}
use Rattle.ent_sched.specs.Tally.{MakesEvent, Tally}
use Rattle.ent_sched.proofs.Adding.{ticked_twice}

-- events behind events
abbrev pub Joined : {F : Type 0} → Forms F → Type 0
Joined forms =
    (n m : ℕ) (first middle last : State) → LeadsTo forms n first middle → LeadsTo forms m middle last
    → LeadsTo forms (n + m) first last

-- a recall and runs led from one counted core to another, and each of their events ticked once
pub record HasRun {F : Type 0} (forms : Forms F) (first now : Tally) : Type 0 where
  pub count : ℕ
  pub runs_on : RunsOn forms count first.core now.core
  pub leads_on : LeadsOn forms count first.core now.core
  pub ticks : now.ticks ≡ ticked count first.ticks

module _ {F : Type 0} (forms : Forms F) where
  led_on : Joined forms → (n m : ℕ) (first middle last : State) → LeadsOn forms n first middle
      → LeadsOn forms m middle last → LeadsOn forms (n + m) first last
  led_on joined n m first middle last before behind =
      record {
        leads = joined n m first middle last before.leads behind.leads;
        opening = behind.opening ∙ before.opening;
        submitted = behind.submitted ∙ before.submitted;
      }

  one_more : (runs : List ℕ) (count : ℕ) (s middle last : State) → AreRuns forms runs s middle
      → IsRun forms count middle last → AreRuns forms (runs ++ count ∷ []) s last
  one_more [] count s middle last before run =
      (last, subst (λ (x : State). IsRun forms count x last) before run, refl)
  one_more (first ∷ more) count s middle last before run =
      (before.0, before.1, one_more more count before.0 middle last before.2 run)

  pub just_recalled : (reply : Reply F) (first now : Tally) → MakesEvent forms Recall reply first now
      → HasRun forms first now
  just_recalled reply first now made =
      record {
        count = 1;
        runs_on = record {
          recalled = now.core;
          recalls = (refl, made.step.1);
          runs = [];
          are_runs = refl;
          in_all = refl;
        };
        leads_on = record {
          leads = (first.core, Recall, reply, refl, made.step);
          opening = ap (λ (x : State). x.opening) made.step.1;
          submitted = ap (λ (x : State). x.submitted) made.step.1;
        };
        ticks = made.ticks;
      }

  pub has_run_more : Joined forms → (first middle last : Tally) → HasRun forms first middle → ¬ CanClose middle.core
      → TicksOn forms (events_of_run middle.core) middle last → last.core.running ≡ false → HasRun forms first last
  has_run_more joined first middle last before undone made ended =
      let so_far = before.runs_on in
      let counted = so_far.in_all in
      let more = sum_by-append (λ (x : ℕ). x) so_far.runs (made.count ∷ []) in
      let run : IsRun forms made.count middle.core last.core = record {
        undone = undone;
        leads_on = made.leads_on;
        few = made.few;
        ended = ended;
      } in
      record {
        count = before.count + made.count;
        runs_on = record {
          recalled = so_far.recalled;
          recalls = so_far.recalls;
          runs = so_far.runs ++ made.count ∷ [];
          are_runs = one_more so_far.runs made.count so_far.recalled middle.core last.core so_far.are_runs run;
          in_all = omega (arith, counted, more);
        };
        leads_on = led_on joined before.count made.count first.core middle.core last.core before.leads_on
            made.leads_on;
        ticks = made.ticks ∙ ap (ticked made.count) before.ticks
            ∙ ticked_twice before.count made.count first.ticks;
      }

  pub has_run_into : Joined forms → (first middle last : Tally) → HasRun forms first middle
      → TicksOn forms (events_of_run middle.core) middle last
      → (count : ℕ) × LeadsOn forms count first.core last.core × RunsInto forms count first.core last.core
      × (last.ticks ≡ ticked count first.ticks)
  has_run_into joined first middle last before made = (
    before.count + made.count,
    led_on joined before.count made.count first.core middle.core last.core before.leads_on made.leads_on,
    record {
      before = before.count;
      between = middle.core;
      runs_on = before.runs_on;
      part = made.count;
      leads_on = made.leads_on;
      few = made.few;
      in_all = refl;
    },
    made.ticks ∙ ap (ticked made.count) before.ticks ∙ ticked_twice before.count made.count first.ticks,
  )

  pub has_run_out : (first last : Tally) (book : Book Database) (ticks : ℕ) → HasRun forms first last
      → IsFinished forms last.core → book ≡ book_of last.core → ticks ≡ last.ticks
      → (count : ℕ) × RunsOut forms count first.core book × (ticks ≡ ticked count first.ticks)
  has_run_out first last book ticks ran finished is same = (
    ran.count,
    record { last = last.core; runs_on = ran.runs_on; finished = finished; is = is },
    same ∙ ran.ticks,
  )

  pub is_run_out : (first last : Tally) (book : Book Database) → HasRun forms first last → IsFinished forms last.core
      → book ≡ book_of last.core → IsRunOut forms first.core book
  is_run_out first last book ran finished is =
      record { last = last.core; count = ran.count; leads_on = ran.leads_on; finished = finished; is = is }

  pub finished_so : (first last : Tally) (book : Book Database) → HasRun forms first last
      → IsFinishedBook forms last.core.opening (scripts_of last.core) book
      → IsFinishedBook forms first.core.opening (scripts_of first.core) book
  finished_so first last book ran h =
      record {
        last = h.last;
        finished = h.finished;
        of_opening = h.of_opening ∙ ran.leads_on.opening;
        of_scripts = h.of_scripts ∙ ap (map (λ (own : Submitted). own.script)) ran.leads_on.submitted;
        is = h.is;
      }
