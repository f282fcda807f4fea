-- What becomes of a member.
use Rattle.std.specs.Prelude.{true, List, ◌++◌}
use Rattle.ent_value.specs.declared.value.Value.{Value}
use Rattle.ent_semantics.specs.declared.answer.Answer.{Answer}
use Rattle.ent_semantics.specs.Database.{Name}
use Rattle.ent_protocol.specs.Begin.{holding}
use Rattle.ent_protocol.specs.Finish.{stepped}
use Rattle.ent_protocol.specs.State.{Member, Use}

-- its statement is posted
abbrev pub posted : Member → Member
posted member = record member { posted = true }

-- it holds the uses that are asked for, and its statement is posted
abbrev pub posting : List Use → Member → Member
posting asked member = posted (holding member asked)

-- it takes an answer that binds host variables
abbrev pub stepping : Answer → List (Name × Value) → Member → Member
stepping answer bound member = stepped answer (record member { bound = member.bound ++ bound })
