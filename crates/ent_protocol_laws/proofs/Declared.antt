-- Every event keeps that lent jobs see tables as they are declared.
use Rattle.std.proofs.Common.{◌≡◌, not, List, [], ◌∷◌, ◌++◌, refl, sym, subst}
use Rattle.std.specs.List.{AllByRecursion}
use Rattle.ent_tree.specs.declared.declaration.Create.{Create}
use Rattle.ent_semantics.specs.declared.statement.Statement.{Statement}
use Rattle.ent_semantics.specs.Form.{Tables}
use Rattle.ent_value.specs.declared.value.Value.{Value}
use Rattle.ent_protocol.specs.Begin.{single_job}
use Rattle.ent_protocol.specs.Finish.{IsTaken, finished}
use Rattle.ent_protocol.specs.Job.{Job, Numbered, Outcome, Shown, Changed, Bound, Choice, Fault}
use Rattle.ent_protocol.specs.Member.{declared_kinds, seen_now}
use Rattle.ent_protocol.specs.PoolEvents.{joint_job, joint_uses}
use Rattle.ent_protocol.specs.Reached.{IsReached}
use Rattle.ent_protocol.specs.Rollback.{goes_with, group_members}
use Rattle.ent_protocol.specs.Run.{Forms}
use Rattle.ent_protocol.specs.State.{State, Member, Use}
use Rattle.ent_protocol.specs.Uses.{statement_uses}
use Rattle.ent_protocol_laws.specs.Declared.{SeesDeclared, LentIsDeclared}
use Rattle.ent_protocol_laws.proofs.Acts.{AreKept, reached}
use Rattle.ent_lists.specs.Elements.{of_all, all_filtered, contains_in}

abbrev Declared : State → Type 0
Declared s = AllByRecursion (SeesDeclared s.opening.tables) s.lent

seen_declared : (declared : List Create) (tables : Tables) (uses : List Use)
    → AllByRecursion (λ (seen : Numbered). seen.kinds ≡ declared_kinds declared seen.table)
    (seen_now declared tables uses)
seen_declared declared tables [] = tt
seen_declared declared tables (own ∷ more) = (refl, seen_declared declared tables more)

with_last : (P : Job → Type 0) (jobs : List Job) (job : Job) → AllByRecursion P jobs → P job
    → AllByRecursion P (jobs ++ job ∷ [])
with_last P [] job all own = (own, tt)
with_last P (first ∷ more) job all own = (all.0, with_last P more job all.1 own)

without : (P : Job → Type 0) (before behind : List Job) (job : Job) → AllByRecursion P (before ++ job ∷ behind)
    → AllByRecursion P (before ++ behind)
without P [] behind job all = all.1
without P (first ∷ more) behind job all = (all.0, without P more behind job all.1)

takes : (P : Job → Type 0) (jobs left : List Job) (job : Job) → IsTaken job jobs left → AllByRecursion P jobs
    → AllByRecursion P left
takes P jobs left job taken all =
    subst (AllByRecursion P) (sym taken.others)
    (without P taken.before taken.behind job (subst (AllByRecursion P) taken.is_there all))

finishes : (s : State) (member : Member) (statement : Statement Value) (outcome : Outcome) → Declared s
    → Declared (finished s member statement outcome)
finishes s member statement (Shown rows) h = h
finishes s member statement (Changed count removed added) h = h
finishes s member statement (Bound value) h = h
finishes s member statement (Choice groundings) h = h
finishes s member statement (Fault failure) h = h

declared_kept : AreKept Declared
declared_kept =
    record {
      submits = λ s script form h. h;
      starts = λ s off h. h;
      lends = λ s m statement idle next h.
          with_last (SeesDeclared s.opening.tables) s.lent (single_job s m statement) h
          (seen_declared s.opening.tables s.tables (statement_uses statement));
      posts = λ s m statement idle next safe h. h;
      prepares = λ s m idle h. h;
      commits = λ s group ready h. h;
      rolls_back = λ s group cause h.
          all_filtered (SeesDeclared s.opening.tables) (λ job. not (goes_with (group_members s group) job)) s.lent h;
      takes = λ s job left taken h. takes (SeesDeclared s.opening.tables) s.lent left job taken h;
      finishes = λ s m left statement outcome back h.
          finishes (record s { lent = left }) m statement outcome
          (takes (SeesDeclared s.opening.tables) s.lent left back.job back.taken h);
      picks = λ s asked component out h.
          with_last (SeesDeclared s.opening.tables) s.lent (joint_job s asked) h
          (seen_declared s.opening.tables s.tables (joint_uses asked));
      joins = λ s job left asked groundings taken component grounded h.
          takes (SeesDeclared s.opening.tables) s.lent left job taken h;
      tries = λ s asked h. h;
      ends = λ s h. tt;
      recalls = λ s h. tt;
    }

pub reached_declared : {F : Type 0} (forms : Forms F) (s : State) → IsReached forms s → LentIsDeclared s
reached_declared forms s r job there =
    of_all (SeesDeclared s.opening.tables) s.lent job (reached forms Declared declared_kept s tt r)
    (contains_in s.lent job there)
