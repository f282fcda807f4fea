-- The heads of some offers.
use Rattle.std.specs.Prelude.{ℕ, Bool, ◌&&◌, List}
use Rattle.std.specs.Borrow.{Bor}
use Rattle.std.specs.BTreeSet.{BTreeSet}
use Rattle.std.specs.List.{list_any}
use Rattle.ent_value.specs.declared.value.Value.{Value}
use Rattle.ent_semantics.specs.Database.{same_name}
use Rattle.ent_semantics.specs.declared.answer.Fact.{Fact}
use Rattle.ent_history.specs.Alike.{same_row}

-- a head, by where its relation and its row stand
abbrev pub Head : Type 0
Head = Bor (List ℕ) × Bor (List Value)

abbrev pub Heads : Type 0
Heads = BTreeSet Head

-- a head among these has the relation and the row of a fact
abbrev pub has : Heads → Fact → Bool
has heads post = list_any (λ head. same_name post.relation head.0.now && same_row post.values head.1.now) heads.keys
