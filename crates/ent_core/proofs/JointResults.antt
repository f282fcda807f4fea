-- Results of joint jobs that are outstanding.
use Rattle.std.proofs.Common.{◌≡◌, ◌<◌, ℕ, suc, false, List, [], ◌∷◌, length, map, sym}
use Rattle.std.proofs.Common.{subst, arith, nat_eq, Option, Some, None, slice_get, slice_index_or}
use Rattle.std.specs.Prelude.{AllPairs, IfSome}
use Rattle.std.specs.List.{AllByRecursion, IsDistinct}
use Rattle.ent_lists.proofs.Numbers.{eq_below}
use Rattle.ent_semantics.specs.Entangled.{Valuation}
use Rattle.ent_semantics.specs.Form.{Tables}
use Rattle.ent_semantics.specs.Choice.{IsLeastChoiceIfAny}
use Rattle.ent_semantics.specs.Pool.{Posted}
use Rattle.ent_semantics.proofs.Grounded.{groundings_counted}
use Rattle.ent_form.specs.declared.fault.FormFault.{FormFault}
use Rattle.ent_protocol.specs.Event.{Reply}
use Rattle.ent_protocol.specs.Job.{Choice, Done, IsEvaluated, IsOutcome, Joint, Outcome, Work}
use Rattle.ent_protocol.specs.Job.{tables_of}
use Rattle.ent_protocol.specs.PoolEvents.{IsPresentComponent, Joins}
use Rattle.ent_protocol.specs.State.{State}
use Rattle.ent_core.specs.Joining.{AnswersAt}

choice_counted : (tables : Tables) (asked : List Posted) (choice : Option (List Valuation))
    → IsLeastChoiceIfAny tables asked choice
    → IfSome choice (λ groundings. length groundings ≡ length asked)
choice_counted tables asked None is = tt
choice_counted tables asked (Some groundings) is =
    groundings_counted tables asked groundings is.choice.grounded  -- a choice has a grounding for each statement

pub one_grounding_each : (done : Done) (asked : List Posted) (choice : Option (List Valuation))
    → Joint asked ≡ done.job.work → Choice choice ≡ done.outcome → IsEvaluated done
    → IfSome choice (λ groundings. length groundings ≡ length asked)
one_grounding_each done asked choice work is meant =
    choice_counted (tables_of done.job.tables) asked choice
    (subst (λ (own : Outcome). IsOutcome (Joint asked) (tables_of done.job.tables) own) (sym is)
    (subst (λ (own : Work). IsOutcome own (tables_of done.job.tables) done.outcome) (sym work) meant))

none_again : (tx : ℕ) (asked : List Posted)
    → ((k : ℕ) (d : Posted) → k < length asked → tx < (slice_index_or asked k d).tx)
    → AllByRecursion (λ n. nat_eq tx n ≡ false) (map (λ (query : Posted). query.tx) asked)
none_again tx [] all = tt
none_again tx (query ∷ asked) all =
    let less : tx < query.tx = all 0 query (omega arith) in
    (eq_below tx query.tx less, none_again tx asked (λ k d within. all (suc k) d (omega arith)))

-- statements that come by number are of distinct transactions
pub distinct_by_number : (asked : List Posted)
    → AllPairs (λ (one other : Posted). one.tx < other.tx) asked
    → IsDistinct nat_eq (map (λ (query : Posted). query.tx) asked)
unfolding IsDistinct
distinct_by_number [] all = tt
distinct_by_number (query ∷ asked) all = (
  none_again query.tx asked (λ k d within. all 0 (suc k) d (omega arith) (omega arith)),
  distinct_by_number asked (λ i j d below within. all (suc i) (suc j) d (omega arith) (omega arith)),
)

pub accepted : (s new : State) (done : Done) (index : ℕ) (asked : List Posted) (choice : Option (List Valuation))
    (reply : Reply FormFault) → Joint asked ≡ done.job.work → slice_get s.lent index ≡ Some done.job
    → IsPresentComponent s asked → IsEvaluated done → Choice choice ≡ done.outcome
    → AnswersAt s index asked choice reply new → Joins s done reply new
accepted s new done index asked choice reply work there component meant is by =
    record {
      meant = meant;
      outstanding = record {
        asked = asked;
        is_joint = sym work;
        left = new.lent;
        taken = by.taken done.job there;
        component = component;
      };
      groundings = choice;
      choice = sym is;
      answers = by.answers;
    }
