-- What an event leaves of a desk: gathered, with as many scripts and entries as its books say.
use Rattle.std.proofs.Common.{◌≡◌, ◌+◌, ◌++◌, ◌∙◌, ◌||◌, ℕ, suc, Bool, false, List, [], ◌∷◌, refl, ap, arith, sym}
use Rattle.std.proofs.Common.{Option, Some}
use Rattle.ent_form.specs.declared.fault.FormFault.{FormFault}
use Rattle.ent_protocol.specs.Event.{EndRun, Event, Reply, StartRun, Submit, Submitted}
use Rattle.ent_protocol.specs.State.{State}
use Rattle.ent_protocol.specs.Step.{Step}
use Rattle.ent_core.specs.Passed.{resolved_forms}
use Rattle.ent_desk.specs.Advance.{Told, Advances, AdvancesInRun, EndsRun, Makes, StartsRun, is_leaving}
use Rattle.ent_desk.specs.Kept.{IsKeptDesk}
use Rattle.ent_desk.specs.Seen.{DeskState, GetsReceipts, LeadsOn, SessionState, TellsOfFates}
use Rattle.ent_desk.specs.declared.advance.Advance.TheVariants as advances
use Rattle.ent_tree.specs.declared.script.Script.{Script}
use Rattle.ent_desk.proofs.Counting.{Adds, Keeps, adds_none, submits_one}
use Rattle.ent_desk.proofs.Leaving.{fates_kept, none_left}

pub kept_on : (count scripts entries more commits scripts' entries' : ℕ) (old new : State) (event : Event)
    (reply : Reply FormFault) → IsKeptDesk old count scripts entries → Step resolved_forms old event reply new
    → Adds more commits old new → scripts' ≡ scripts + more → entries' ≡ entries + commits
    → IsKeptDesk new count scripts' entries'
kept_on count scripts entries more commits scripts' entries' old new event reply kept step adds is are =
    let g = kept.gathered in
    let one = kept.scripts in
    let two = kept.entries in
    let three = adds.submitted in
    let four = adds.journal in
    record {
      gathered = (g.0, suc g.1, g.2, (old, event, reply, g.3, step));
      scripts = omega (arith, is, one, three);
      entries = omega (arith, are, two, four);
    }

-- the same where nothing is added
pub kept_none : (count scripts entries : ℕ) (old new : State) (event : Event) (reply : Reply FormFault)
    → IsKeptDesk old count scripts entries → Step resolved_forms old event reply new → Keeps old new
    → IsKeptDesk new count scripts entries
kept_none count scripts entries old new event reply kept step keeps =
    kept_on count scripts entries 0 0 scripts entries old new event reply kept step (adds_none old new keeps)
    (omega arith) (omega arith)

-- a script that is taken
pub kept_submit : (count scripts entries scripts' : ℕ) (old new : State) (script : Script) (tx : ℕ)
    → IsKeptDesk old count scripts entries → Step resolved_forms old (Submit script) (Submitted tx) new
    → scripts' ≡ scripts + 1 → IsKeptDesk new count scripts' entries
kept_submit count scripts entries scripts' old new script tx kept step more =
    kept_on count scripts entries 1 0 scripts' entries old new (Submit script) (Submitted tx) kept step
    (submits_one resolved_forms old new script tx step) more (omega arith)

-- an event tells of the fates that come
fates_told : (before after : DeskState) (event : Event) (reply : Reply FormFault)
    → Step resolved_forms before.core event reply after.core → after.left ≡ (before.left || is_leaving reply)
    → TellsOfFates before after
fates_told before after event reply step left = λ stays.
    let h = none_left before.left after.left (is_leaving reply) left stays in
    (h.0, fates_kept resolved_forms before.core event reply after.core step h.1)

-- one event leads on, and none
pub one_on : (before after : DeskState) (event : Event) (reply : Reply FormFault)
    → Step resolved_forms before.core event reply after.core → after.count ≡ before.count
    → after.left ≡ (before.left || is_leaving reply) → LeadsOn before after
one_on before after event reply step count left =
    record {
      events = 1;
      leads = (before.core, event, reply, refl, step);
      count = count;
      tells = fates_told before after event reply step left;
    }

pub none_on : (old new : DeskState) → new ≡ old → LeadsOn old new
none_on old new is =
    record {
      events = 0;
      leads = ap (λ (d : DeskState). d.core) is;
      count = ap (λ (d : DeskState). d.count) is;
      tells = λ stays. (sym (ap (λ (d : DeskState). d.left) is) ∙ stays, ap (λ (d : DeskState). d.core.fates) is);
    }

pub append_nil : {X : Type 0} (xs : List X) → xs ≡ xs ++ []
append_nil [] = refl
append_nil (x ∷ xs) = ap (λ l. x ∷ l) (append_nil xs)

-- what is made leads on
pub makes_on : (event : Event) (told : Option Told) (before after : DeskState) → Makes event before told after
    → LeadsOn before after
makes_on event told before after h = one_on before after event h.reply h.step h.count h.left

pub advances_on : (told : Told) (before after : DeskState) → Advances before told after → LeadsOn before after
advances_on (advances.Lent job) before after h = makes_on h.0 (Some (advances.Lent job)) before after h.2
advances_on advances.Moved before after h = makes_on h.0 (Some advances.Moved) before after h.2
advances_on advances.Idle before after h = none_on before after h.0
advances_on advances.Done before after h = none_on before after h.0

pub in_run_on : (told : Told) (before after : DeskState) → AdvancesInRun before told after → LeadsOn before after
in_run_on (advances.Lent job) before after h = makes_on h.0 (Some (advances.Lent job)) before after h.2
in_run_on advances.Moved before after h = makes_on h.0 (Some advances.Moved) before after h.2
in_run_on advances.Idle before after h = none_on before after h.0
in_run_on advances.Done before after h = none_on before after h.0

pub starts_on : (told : Told) (before after : DeskState) → StartsRun before told after → LeadsOn before after
starts_on (advances.Lent job) before after h = absurd h
starts_on advances.Moved before after h = makes_on StartRun (Some advances.Moved) before after h
starts_on advances.Idle before after h = none_on before after h.0
starts_on advances.Done before after h = none_on before after h.0

pub ends_on : (told : Told) (before after : DeskState) → EndsRun before told after → LeadsOn before after
ends_on (advances.Lent job) before after h = absurd h
ends_on advances.Moved before after h = makes_on EndRun (Some advances.Moved) before after h
ends_on advances.Idle before after h = none_on before after h.0
ends_on advances.Done before after h = none_on before after h.0

-- nothing was got
pub gets_none : (old new : SessionState) → new ≡ old → GetsReceipts old new
gets_none old new is =
    record {
      tickets = ap (λ (s : SessionState). s.tickets) is;
      first = ap (λ (s : SessionState). s.first) is;
      receipts = ([], ap (λ (s : SessionState). s.receipts) is ∙ append_nil old.receipts);
    }
