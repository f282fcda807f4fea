-- What an outcome makes of a member and of the tables.
use Rattle.std.specs.Prelude.{◌≡◌, ℕ, ◌<◌, length}
use Rattle.std.specs.List.{AllByRecursion}
use Rattle.ent_value.specs.declared.value.Value.{Value}
use Rattle.ent_semantics.specs.FormKinds.{changed_tables}
use Rattle.ent_semantics.specs.declared.statement.Statement.{Statement}
use Rattle.ent_ordinary.specs.Change.{IsApplicable}
use Rattle.ent_rel.specs.declared.change.Delta.{Delta}
use Rattle.ent_run.specs.Places.{Changes}
use Rattle.ent_run.specs.Run.{Run}
use Rattle.ent_semantics.specs.declared.answer.Answer.TheVariants as answers
use Rattle.ent_protocol.specs.Finish.{noted, stepped, variable_of, with_bound, with_change}
use Rattle.ent_protocol.specs.Job.{Outcome, Shown, Changed, Bound, Choice, Fault, Single}
use Rattle.ent_protocol.specs.State.{Member}
use Rattle.ent_tables.specs.Stored.{Stored, relation_at}

-- a table is there, and a change can be made in it
pub record MayChange (stored : Stored) (delta : Delta) (table : ℕ) : Type 0 where
  pub there : table < length stored.tables
  pub applicable : IsApplicable (relation_at stored table) delta

-- the tables with a statement's change made and noted
abbrev pub changing : Single → Delta → Stored → Stored
changing single delta stored =
    record stored {
      tables = with_change (changed_tables single.statement) delta.removed delta.added stored.tables;
      changes = noted single.tx (changed_tables single.statement) stored.tables stored.changes;
    }

-- a member that took the value that its statement binds
abbrev pub binding : Statement Value → Value → Member → Member
binding statement value member =
    stepped (answers.Value value)
    (record member { bound = with_bound (variable_of statement) value member.bound })

-- where an outcome is a change, it can be made in the statement's table
abbrev pub MayAdvance : Stored → Statement Value → Outcome → Type 0
MayAdvance stored statement (Shown rows) = Unit {0}
MayAdvance stored statement (Changed count removed added) =
    AllByRecursion (MayChange stored (record { removed = removed; added = added })) (changed_tables statement)
MayAdvance stored statement (Bound value) = Unit {0}
MayAdvance stored statement (Choice groundings) = Unit {0}
MayAdvance stored statement (Fault failure) = Unit {0}

-- one member that isn't prepared is changed, and nobody else
pub record Steps (change : Member → Member) (tx : ℕ) (old new : Run) : Type 0 where
  pub prepared : new.prepared ≡ old.prepared
  pub active : Changes change tx old.active new.active

-- what an outcome that is no failure makes of the statement's member and of the tables
abbrev pub Advances : Single → Outcome → Run → Stored → Run → Stored → Type 0
Advances single (Shown rows) run stored run' stored' =
    Steps (stepped (answers.Rows rows)) single.tx run run' × (stored' ≡ stored)
Advances single (Changed count removed added) run stored run' stored' =
    Steps (stepped (answers.Count count)) single.tx run run'
    × (stored' ≡ changing single (record { removed = removed; added = added }) stored)
Advances single (Bound value) run stored run' stored' =
    Steps (binding single.statement value) single.tx run run' × (stored' ≡ stored)
Advances single (Choice groundings) run stored run' stored' = ⊥
Advances single (Fault failure) run stored run' stored' = ⊥
