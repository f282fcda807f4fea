-- Answer relations of which rows are offered or demanded, and postconditions as they are written.
use Rattle.std.specs.Prelude.{Bool, List, [], ◌∷◌}
use Rattle.std.specs.List.{flat_map, list_any}
use Rattle.ent_semantics.specs.Database.{Name, same_name}
use Rattle.ent_tree.specs.declared.entangled.Condition.{Condition}
use Rattle.ent_tree.specs.declared.entangled.Condition.TheVariants.{InAnswer}
use Rattle.ent_tree.specs.declared.entangled.Tuple.{Tuple}
use Rattle.ent_tree.specs.declared.operand.Identifier.{Identifier}
use Rattle.ent_tree.specs.declared.script.Script.{Script}
use Rattle.ent_tree.specs.declared.script.Statement.{Statement}
use Rattle.ent_tree.specs.declared.script.Statement.TheVariants.{Entangled}
use Rattle.ent_meetings.specs.declared.party.Party.{Party}
use Rattle.ent_meetings.specs.declared.pattern.Pattern.{Pattern}

-- a row of a relation
abbrev pub is_of : Name → Pattern → Bool
is_of relation pattern = same_name pattern.relation relation

abbrev pub names : Name → Party → Bool
names relation party = list_any (is_of relation) party.offers

-- one of the parties offers rows of a relation
abbrev pub is_named : List Party → Name → Bool
is_named parties relation = list_any (names relation) parties

abbrev pub asks_for : Name → Party → Bool
asks_for relation party = list_any (is_of relation) party.demands

-- one of them demands rows of a relation
abbrev pub is_demanded : List Party → Name → Bool
is_demanded parties relation = list_any (asks_for relation) parties

-- a postcondition as it is written: the tuple, and the relation that it has to be in
abbrev pub Written : Type 0
Written = Tuple × Identifier

-- the postcondition that a condition is, where it is one
abbrev pub condition_written : Condition → List Written
condition_written (InAnswer tuple relation) = (tuple, relation) ∷ []
condition_written other = []

abbrev pub statement_written : Statement → List Written
statement_written (Entangled asked) = flat_map condition_written asked.conditions
statement_written other = []

-- the postconditions of a script, in order of the text
abbrev pub postconditions : Script → List Written
postconditions script = flat_map statement_written script.statements
