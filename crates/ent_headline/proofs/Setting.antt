-- The script that binds a host variable, event by event.
use Rattle.std.proofs.Common.{◌≡◌, inl, false, List, [], ◌∷◌, refl, subst, sym, Ok}
use Rattle.std.specs.Prelude.{codes}
use Rattle.ent_tree.specs.declared.operand.Expression.TheVariants.{Single}
use Rattle.ent_semantics.specs.declared.operand.Known.{Known}
use Rattle.ent_semantics.specs.declared.operand.Known.TheVariants as known
use Rattle.ent_semantics.specs.declared.statement.Statement.{Statement}
use Rattle.ent_semantics.specs.declared.statement.Statement.TheVariants as forms
use Rattle.ent_form.specs.declared.fault.FormFault.{FormFault}
use Rattle.ent_form.specs.Form.{statement_in}
use Rattle.ent_form.specs.Ordinary.{set_in}
use Rattle.ent_protocol.specs.Begin.{lending}
use Rattle.ent_protocol.specs.Commit.{preparing, committing}
use Rattle.ent_protocol.specs.Event.{Reply}
use Rattle.ent_protocol.specs.Event as events
use Rattle.ent_protocol.specs.Finish.{finished, stepped}
use Rattle.ent_protocol.specs.Job.{Bound}
use Rattle.ent_protocol.specs.Play.{Plays}
use Rattle.ent_protocol.specs.Reached.{opened}
use Rattle.ent_protocol.specs.Run.{SubmitsForm, submitting, starting}
use Rattle.ent_protocol.specs.State.{State, Member}
use Rattle.ent_semantics.specs.declared.answer.Answer.TheVariants as answers
use Rattle.ent_headline.specs.Resolved.{resolved_forms}
use Rattle.ent_headline.specs.Setting.{bare_opening, one, setter, setter_commits}

abbrev set_form : List (Statement Known)
set_form = forms.Set (codes "x") (Single (known.Constant one)) ∷ []

resolves : resolved_forms.resolve bare_opening setter ≡ Ok set_form
unfolding statement_in set_in
resolves = refl

abbrev submitted : State
submitted = submitting (opened bare_opening) setter set_form

abbrev started : State
started = starting submitted

abbrev member : Member
member =
    record {
      tx = 1;
      attempt = 1;
      group = 1;
      place = 1;
      bound = [];
      answers = [];
      uses = [];
      posted = false;
    }

abbrev lent : State
lent = lending started member (forms.Set (codes "x") (Single one))

abbrev after : State
after = finished (record lent { lent = [] }) member (forms.Set (codes "x") (Single one)) (Bound one)

abbrev at_end : Member
at_end = stepped (answers.Value one) (record member { bound = (codes "x", one) ∷ [] })

abbrev pub last : State
last = committing (preparing after at_end) 1

submits : SubmitsForm {F = FormFault} (opened bare_opening) setter (resolved_forms.resolve bare_opening setter)
    (events.Submitted 1) submitted
submits =
    subst (λ form. SubmitsForm {F = FormFault} (opened bare_opening) setter form (events.Submitted 1) submitted)
    (sym resolves) (refl, refl)

pub played : Plays resolved_forms (opened bare_opening) setter_commits last
played = (
  submitted,
  submits,
  (
    started,
    (refl, refl),
    (
      lent,
      (refl, refl),
      (
        after,
        inl (
          _,
          refl,
          record {
            meant = refl;
            left = [];
            taken = record { before = []; behind = []; is_there = refl; others = refl };
            member = member;
            is_member = refl;
            steps = (refl, refl);
          },
        ),
        (last, (refl, refl), refl),
      ),
    ),
  ),
)
