-- Every event keeps the opening, and puts scripts at the end alone.
use Rattle.std.proofs.Common.{◌≡◌, List, [], ◌∷◌, ◌++◌, refl, sym, ap, ◌∙◌}
use Rattle.std.proofs.lemmas.List.{append-nil, append_assoc}
use Rattle.ent_tree.specs.declared.script.Script.{Script}
use Rattle.ent_semantics.specs.declared.operand.Known.{Known}
use Rattle.ent_semantics.specs.declared.statement.Statement.{Statement}
use Rattle.ent_value.specs.declared.value.Value.{Value}
use Rattle.ent_protocol.specs.Event.{Event, Reply}
use Rattle.ent_protocol.specs.Finish.{finished}
use Rattle.ent_protocol.specs.Job.{Outcome, Shown, Changed, Bound, Choice, Fault}
use Rattle.ent_protocol.specs.Run.{Forms, submitting}
use Rattle.ent_protocol.specs.State.{State, Member, Submitted}
use Rattle.ent_protocol.specs.Step.{Step}
use Rattle.ent_protocol_laws.specs.Standing.{GoesOn}
use Rattle.ent_protocol_laws.proofs.Acts.{AreKept, stepped_on}

module _ (old : State) where
  -- a state that keeps these two
  alike : (s new : State) → new.opening ≡ s.opening → new.submitted ≡ s.submitted → GoesOn old s → GoesOn old new
  alike s new opening submitted h =
      record { opening = opening ∙ h.opening; more = h.more; behind = submitted ∙ h.behind }

  submits : (s : State) (script : Script) (form : List (Statement Known)) → GoesOn old s
      → GoesOn old (submitting s script form)
  submits s script form h =
      let one : List Submitted = record { script = script; form = form } ∷ [] in
      record {
        opening = h.opening;
        more = h.more ++ one;
        behind = ap (λ all. all ++ one) h.behind ∙ append_assoc old.submitted h.more one;
      }

  finishes : (s : State) (member : Member) (statement : Statement Value) (outcome : Outcome) → GoesOn old s
      → GoesOn old (finished s member statement outcome)
  finishes s member statement (Changed count removed added) h = alike s _ refl refl h
  finishes s member statement (Bound value) h = alike s _ refl refl h
  finishes s member statement (Shown rows) h = alike s _ refl refl h
  finishes s member statement (Fault failure) h = h
  finishes s member statement (Choice groundings) h = h

  onward : AreKept (GoesOn old)
  onward =
      record {
        submits = submits;
        starts = λ s off h. alike s _ refl refl h;
        lends = λ s member statement idle next h. alike s _ refl refl h;
        posts = λ s member statement idle next safe h. alike s _ refl refl h;
        prepares = λ s member idle h. alike s _ refl refl h;
        commits = λ s group ready h. alike s _ refl refl h;
        rolls_back = λ s group cause h. alike s _ refl refl h;
        takes = λ s job left taken h. alike s _ refl refl h;
        finishes = λ s member left statement outcome back h.
            finishes (record s { lent = left }) member statement outcome (alike s _ refl refl h);
        picks = λ s asked component out h. alike s _ refl refl h;
        joins = λ s job left asked groundings taken component grounded h. alike s _ refl refl h;
        tries = λ s asked h. alike s _ refl refl h;
        ends = λ s h. alike s _ refl refl h;
        recalls = λ s h. alike s _ refl refl h;
      }

pub goes_on : {F : Type 0} (forms : Forms F) (s : State) (event : Event) (reply : Reply F) (new : State)
    → Step forms s event reply new → GoesOn s new
goes_on forms s event reply new step =
    stepped_on forms (GoesOn s) (onward s) s event reply new step
    (record { opening = refl; more = []; behind = sym (append-nil s.submitted) })
