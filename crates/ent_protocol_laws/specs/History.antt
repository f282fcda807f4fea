-- Serial states: transactions run alone, one after the other.
use Rattle.std.specs.Prelude.{◌≡◌, List, [], ◌∷◌, Some}
use Rattle.std.specs.List.{AllByRecursion}
use Rattle.ent_tree.specs.declared.declaration.Create.{Create}
use Rattle.ent_semantics.specs.Database.{Database, nothing_bound}
use Rattle.ent_semantics.specs.Joint.{IsGrounded}
use Rattle.ent_semantics.specs.Serial.{Operation, run, read_views}
use Rattle.ent_protocol.specs.Member.{environment_of}
use Rattle.ent_protocol.specs.State.{Member}

-- a member and what it did: its statements so far, with the oracle's answers to the entangled ones
pub record History : Type 0 where
  pub member : Member
  pub operations : List Operation

-- What a member did, run alone from a database, gives its answers and what is bound, and leaves another database. Each
-- answer of the oracle is a grounding over the database that stands there.
pub record Replays (declared : List Create) (history : History) (first last : Database) : Type 0 where
  pub runs : run declared history.operations first nothing_bound
      ≡ Some (record {
        database = last;
        environment = environment_of history.member;
        answers = history.member.answers;
      })
  pub grounded : AllByRecursion (IsGrounded declared)
      (read_views declared history.member.tx 1 history.operations first nothing_bound)

-- one after the other, each from the database that the one before left
abbrev pub AreSerial : List Create → List History → Database → Database → Type 0
AreSerial declared [] first last = first ≡ last
AreSerial declared (history ∷ more) first last =
    (next : Database) × Replays declared history first next × AreSerial declared more next last
