-- The next statement of a member before it is closed.
use Rattle.std.specs.Prelude.{Option, Some, None}
use Rattle.ent_semantics.specs.Serial.{numbered}
use Rattle.ent_semantics.specs.declared.operand.Known.{Known}
use Rattle.ent_semantics.specs.declared.statement.Statement.{Statement}
use Rattle.ent_protocol.specs.State.{Submitted, Member}

-- the statement at the member's place; none at the end of its script
abbrev pub next_form : Option Submitted → Member → Option (Statement Known)
next_form None member = None
next_form (Some submitted) member = numbered submitted.form member.place
